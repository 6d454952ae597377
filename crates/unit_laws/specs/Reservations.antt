-- Laws of reservations in the standard's own words, over histories and over lists of commands from power on.
use Rattle.std.specs.Prelude.{◌≡◌, ◌≢◌, ◌%◌, ◌^◌, Bool, true, false, not, ◌==◌, ◌⊎◌, count_by, if◌then◌else◌, List, length, Option, None, Some, is_some}
use Rattle.std.specs.List.{fold}
use Rattle.scsi_cdb.specs.declared.service_action.OutServiceAction.TheVariants as out
use Rattle.scsi_nexus.specs.declared.nexus.Nexus.{Nexus}
use Rattle.permit_tables.specs.declared.res_type.ResType.{ResType}
use Rattle.permit_tables.specs.declared.role.Role.TheVariants.{Registered}
use Rattle.permit_tables.specs.Types.{is_all_registrants}
use Rattle.permit_tables.specs.declared.out_params.OutParams.{OutParams}
use Rattle.permit_tables.specs.Pairs.{key_in}
use Rattle.pr_core.specs.Acts.{Act, Register, Reserve, Release, Clear, Preempt, Move}
use Rattle.pr_core.specs.declared.verdict.Verdict.TheVariants.{Allowed, Denied, Rule}
use Rattle.pr_core.specs.State.{State, Keys, power_on, role, is_all_held, is_holder, takes, keys_after, after, after_all, is_counted}
use Rattle.pr_core.specs.Judge.{verdict}
use Rattle.pr_core.specs.Outcome.{refusal, applied}

-- what a command leaves: it is carried out where it is allowed and not refused
abbrev pub answered : State → Nexus → OutParams → State
answered v n p = elim (verdict v n p) [
  | Allowed ↦ elim (refusal v n p) [ None ↦ applied v n p | Some fault ↦ v ]
  | Denied cell ↦ v
  | Rule rule ↦ v
]

-- what a list of commands leaves, oldest first, from power on
abbrev pub commanded : List (Nexus × OutParams) → State
commanded commands = fold (λ v c. answered v c.0 c.1) power_on commands

-- under an all registrants type no nexus is merely registered
abbrev pub NoneRegistered : Type 0
NoneRegistered = (v : State) (n : Nexus) → is_all_held v ≡ true → role v n ≢ Registered

-- PRGENERATION counts exactly the accepted acts other than RESERVE and RELEASE
abbrev pub GenerationCounts : Type 0
GenerationCounts = (h : List (Nexus × Act)) → (after_all power_on h).generation ≡ count_by (λ e. is_counted e.1) h % 2 ^ 32

-- whether a reservation has what keeps it among these keys: under an all registrants type somebody's key, else its holder's
abbrev pub is_kept_by : Keys → Option (ResType × Nexus) → Bool
is_kept_by keys None = true
is_kept_by keys (Some r) = not (if is_all_registrants r.0 then length keys == 0 else key_in keys r.1 == 0)

-- a reservation never stands without its holder's registration, nor under an all registrants type without anybody's
abbrev pub HolderIsRegistered : Type 0
HolderIsRegistered = (commands : List (Nexus × OutParams)) → is_kept_by (commanded commands).keys (commanded commands).reservation ≡ true

-- RESERVE never takes a reservation from another
abbrev pub ReserveTakesNothing : Type 0
ReserveTakesNothing =
    (commands : List (Nexus × OutParams)) (n : Nexus) (p : OutParams) → p.act ≡ out.Reserve → is_some (commanded commands).reservation ≡ true
    → (answered (commanded commands) n p).reservation ≡ (commanded commands).reservation

-- the act a of s unregisters the holder of the reservation, or under an all registrants type everybody
abbrev pub Unregisters : State → Nexus → Act → Type 0
Unregisters v s a = is_kept_by (keys_after v s a) v.reservation ≡ false

-- how an act can end or move a reservation: PREEMPT with the holder's key, or 0 under an all registrants type; CLEAR; RELEASE by
-- a holder; unregistering, by REGISTER or PREEMPT; REGISTER AND MOVE
abbrev pub MayEnd : State → Nexus → Act → Type 0
MayEnd v s (Preempt k code) = (takes v k ≡ true) ⊎ Unregisters v s (Preempt k code)
MayEnd v s Clear = Unit {0}
MayEnd v s (Release code) = is_holder v s ≡ true
MayEnd v s (Register k targets) = Unregisters v s (Register k targets)
MayEnd v s (Move k d unreg) = Unit {0}
MayEnd v s (Reserve t) = ⊥

-- nothing else ends or moves a reservation
abbrev pub OnlyTheseEnd : Type 0
OnlyTheseEnd =
    (commands : List (Nexus × OutParams)) (s : Nexus) (a : Act) → is_some (commanded commands).reservation ≡ true
    → (after (commanded commands) s a).reservation ≢ (commanded commands).reservation → MayEnd (commanded commands) s a
