-- What a unit's accepted reservation acts leave: the registered keys, the reservation and the generation (SPC-4, "Reservations").
-- Each act's effect stands here once, nexus by nexus; `after_all` carries it along a history, oldest first.
use Rattle.std.specs.Prelude.{◌≢◌, ℕ, ◌+◌, ◌%◌, ◌^◌, Bool, true, false, not, ◌&&◌, ◌||◌, ◌==◌, if◌then◌else◌, List, [], ◌∷◌, ◌++◌, length, map, Option, None, Some, unwrap_or, is_none}
use Rattle.std.specs.List.{fold}
use Rattle.std.specs.FinMap.{put}
use Rattle.scsi_cdb.specs.declared.classes.Class.{Class}
use Rattle.scsi_nexus.specs.declared.nexus.Nexus.{Nexus}
use Rattle.scsi_nexus.specs.Limits.{list_limit}
use Rattle.scsi_nexus.specs.Order.{nexus_cmp, same_nexus}
use Rattle.permit_tables.specs.declared.res_type.ResType.{ResType}
use Rattle.permit_tables.specs.declared.res_type.ResType.TheVariants as restype
use Rattle.permit_tables.specs.declared.role.Role.{Role}
use Rattle.permit_tables.specs.declared.role.Role.TheVariants.{Holder, Registered, Other}
use Rattle.permit_tables.specs.declared.cell.Cell.{Cell}
use Rattle.permit_tables.specs.Types.{coded_type, is_all_registrants}
use Rattle.permit_tables.specs.Pairs.{key_in}
use Rattle.pr_core.specs.Acts.{Act, Register, Reserve, Release, Clear, Preempt, Move}
use Rattle.pr_core.specs.Targets.{is_among}

-- how many registrations a unit has room for: as many as a list of nexuses (profile)
abbrev pub capacity : ℕ
capacity = list_limit

-- the registered nexuses, each with its key, ascending
abbrev pub Keys : Type 0
Keys = List (Nexus × ℕ)

-- what stands at a unit
pub record State : Type 0 where
  pub keys : Keys
  pub reservation : Option (ResType × Nexus)
  pub generation : ℕ

-- at power on
abbrev pub power_on : State
power_on = record { keys = []; reservation = None; generation = 0 }

-- the key of a nexus, 0 for none
abbrev pub key : State → Nexus → ℕ
key v n = key_in v.keys n

abbrev pub is_registered : State → Nexus → Bool
is_registered v n = not (key v n == 0)

-- the type in force
abbrev pub res_type : State → ResType
res_type v = elim v.reservation [ None ↦ restype.None | Some r ↦ r.0 ]

-- whether the reservation is of an all registrants type
abbrev pub is_all_held : State → Bool
is_all_held v = is_all_registrants (res_type v)

-- whether n is the nexus of a reservation that isn't of an all registrants type
abbrev pub is_sole_holder : State → Nexus → Bool
is_sole_holder v n = elim v.reservation [ None ↦ false | Some r ↦ not (is_all_registrants r.0) && same_nexus n r.1 ]

-- whether n holds: its nexus, or under an all registrants type every registered one
abbrev pub is_holder : State → Nexus → Bool
is_holder v n = is_sole_holder v n || (is_all_held v && is_registered v n)

abbrev pub role : State → Nexus → Role
role v n = if is_holder v n then Holder else if is_registered v n then Registered else Other

-- the cell of the permission table that a command of a class by n stands in
abbrev pub cell : State → Nexus → Class → Cell
cell v n class = record { class = class; res_type = res_type v; role = role v n }

-- whether a preemption of key k takes the reservation: one of an all registrants type by 0, another by its holder's key
abbrev pub takes : State → ℕ → Bool
takes v k = elim v.reservation [ None ↦ false | Some r ↦ if is_all_registrants r.0 then k == 0 else k == key v r.1 ]

-- whether the act a is a preemption that takes the reservation
abbrev pub is_taking : State → Act → Bool
is_taking v (Preempt k code) = takes v k
is_taking v a = false

-- the key of n after the act a of s
abbrev pub key_after : State → Nexus → Act → Nexus → ℕ
key_after v s (Register k targets) n = if is_among n targets then k else key v n
key_after v s Clear n = 0
key_after v s (Preempt k code) n =
    if takes v k
    then (if not (same_nexus n s) && (is_all_held v || key v n == k) then 0 else key v n)
    else (if key v n == k then 0 else key v n)
key_after v s (Move k d unreg) n = if same_nexus n d then k else if same_nexus n s && unreg then 0 else key v n
key_after v s a n = key v n

-- the keys that f gives these nexuses, where 0 is none
abbrev pub keys_by : (Nexus → ℕ) → List Nexus → Keys
keys_by f [] = []
keys_by f (n ∷ ns) = if f n == 0 then keys_by f ns else put nexus_cmp n (f n) (keys_by f ns)

-- the registered nexuses, ascending
abbrev pub registrants : State → List Nexus
registrants v = map (λ e. e.0) v.keys

-- the nexuses that an act of s names
abbrev pub named : Nexus → Act → List Nexus
named s (Register k targets) = targets
named s (Move k d unreg) = d ∷ s ∷ []
named s a = s ∷ []

-- the keys after the act a of s: no other nexus can have one
unfoldable pub keys_after : State → Nexus → Act → Keys
keys_after v s a = keys_by (key_after v s a) (named s a ++ registrants v)

-- a reservation ends when its nexus, or under an all registrants type every nexus, has no key
abbrev pub lasting : Keys → Option (ResType × Nexus) → Option (ResType × Nexus)
lasting keys None = None
lasting keys (Some r) = if (if is_all_registrants r.0 then length keys == 0 else key_in keys r.1 == 0) then None else Some r

-- the type in a byte of scope and type
abbrev pub type_in : ℕ → ResType
type_in code = unwrap_or (coded_type code) restype.None

-- what the act a of s makes of the reservation by itself, if it does
abbrev pub decided : State → Nexus → Act → Option (Option (ResType × Nexus))
decided v s (Reserve t) = if is_none v.reservation then Some (Some (t, s)) else None
decided v s (Release code) = if is_holder v s then Some None else None
decided v s Clear = Some None
decided v s (Preempt k code) = if takes v k then Some (Some (type_in code, s)) else None
decided v s (Move k d unreg) = Some (elim v.reservation [ None ↦ None | Some r ↦ Some (r.0, d) ])
decided v s (Register k targets) = None

-- the reservation after the act a of s: otherwise it stays, unless it ends with its keys
abbrev pub reservation_after : State → Nexus → Act → Option (ResType × Nexus)
reservation_after v s a = unwrap_or (decided v s a) (lasting (keys_after v s a) v.reservation)

-- each act but RESERVE and RELEASE counts
abbrev pub is_counted : Act → Bool
is_counted (Reserve t) = false
is_counted (Release code) = false
is_counted a = true

abbrev pub generation_after : State → Act → ℕ
generation_after v a = if is_counted a then (v.generation + 1) % 2 ^ 32 else v.generation

-- what the act a of s leaves
abbrev pub after : State → Nexus → Act → State
after v s a = record {
  keys = keys_after v s a;
  reservation = reservation_after v s a;
  generation = generation_after v a;
}

-- what a history leaves, oldest first, on a base
abbrev pub after_all : State → List (Nexus × Act) → State
after_all base h = fold (λ v e. after v e.0 e.1) base h

-- a key that is moved is a key
abbrev pub IsKeyed : Act → Type 0
IsKeyed (Move k d unreg) = k ≢ 0
IsKeyed a = Unit {0}
