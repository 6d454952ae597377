-- What an allowed PERSISTENT RESERVE OUT command does: it is refused, or its act is accepted, with what is told to others
-- (SPC-4, "PERSISTENT RESERVE OUT command" and the clauses on each service action).
use Rattle.std.specs.Prelude.{ℕ, Bool, false, not, ◌&&◌, ◌||◌, ◌==◌, nat_lt, nat_le, if◌then◌else◌, List, [], length, filter, Option, None, Some, is_some, is_none}
use Rattle.std.specs.List.{filter_map, list_any}
use Rattle.scsi_cdb.specs.declared.service_action.OutServiceAction.TheVariants as out
use Rattle.scsi_nexus.specs.declared.nexus.Nexus.{Nexus}
use Rattle.scsi_nexus.specs.Order.{same_nexus}
use Rattle.permit_tables.specs.Types.{coded_type, is_registrants_only}
use Rattle.unit_attention.specs.declared.kind.Kind.{Kind}
use Rattle.unit_attention.specs.declared.kind.Kind.TheVariants.{ReservationsPreempted, ReservationsReleased, RegistrationsPreempted}
use Rattle.permit_tables.specs.declared.out_params.OutParams.{OutParams}
use Rattle.pr_core.specs.declared.act.Standing.{Standing}
use Rattle.pr_core.specs.Acts.{Act, Register, Reserve, Release, Clear, Preempt, Move}
use Rattle.scsi_nexus.specs.Ports.{is_target_port}
use Rattle.pr_core.specs.Targets.{targets, is_among}
use Rattle.permit_tables.specs.declared.pr_fault.PrFault.{PrFault}
use Rattle.permit_tables.specs.declared.pr_fault.PrFault.TheVariants.{InvalidField, InvalidParam, InvalidRelease, NoRegistrationRoom}
use Rattle.pr_core.specs.State.{State, capacity, is_registered, is_all_held, is_holder, is_sole_holder, res_type, registrants, takes, is_taking, key_after, keys_after, type_in, after}
use Rattle.pr_core.specs.Judge.{held_code}

-- whether there is no room for one more registration
abbrev pub is_full : State → Bool
is_full v = nat_le capacity (length v.keys)

-- whether a byte of scope and type has scope 0 and a known type
abbrev pub is_known_type : ℕ → Bool
is_known_type code = is_some (coded_type code)

-- REGISTER of either kind: it lists SAS addresses and comes from a registered nexus (profile), or there is no room for all the
-- new registrations
abbrev pub register_refusal : State → Nexus → OutParams → Option PrFault
register_refusal v n p =
    if p.listed && is_registered v n then Some InvalidParam
    else if nat_lt capacity (length (keys_after v n (Register p.sark (targets n p)))) then Some NoRegistrationRoom
    else None

-- RESERVE: nobody holds, and scope or type are unknown
abbrev pub reserve_refusal : State → OutParams → Option PrFault
reserve_refusal v p = if is_none v.reservation && not (is_known_type p.scope_type) then Some InvalidField else None

-- RELEASE by a holder with another scope or type
abbrev pub release_refusal : State → Nexus → OutParams → Option PrFault
release_refusal v n p = if is_holder v n && not (p.scope_type == held_code v) then Some InvalidRelease else None

-- PREEMPT of either kind: taking with an unknown scope or type, or not taking with 0
abbrev pub preempt_refusal : State → OutParams → Option PrFault
preempt_refusal v p =
    if takes v p.sark
    then (if is_known_type p.scope_type then None else Some InvalidField)
    else (if p.sark == 0 then Some InvalidParam else None)

-- REGISTER AND MOVE, in the order of the tests
abbrev pub move_refusal : State → Nexus → OutParams → Option PrFault
move_refusal v n p =
    if is_none v.reservation then Some InvalidField
    else if p.sark == 0 then Some InvalidParam
    else elim p.dest [
      | None ↦ Some InvalidParam
      | Some d ↦
          if same_nexus d n || not (is_target_port d.port) then Some InvalidParam
          else if not (is_registered v d) && not p.unreg && is_full v then Some NoRegistrationRoom
          else None
    ]

-- why the command is refused, if it is; a defect of its list comes first
abbrev pub refusal : State → Nexus → OutParams → Option PrFault
refusal v n p =
    if is_some p.defect then Some InvalidParam
    else elim p.act [
      | out.Register ↦ register_refusal v n p
      | out.RegisterAndIgnoreExistingKey ↦ register_refusal v n p
      | out.Reserve ↦ reserve_refusal v p
      | out.Release ↦ release_refusal v n p
      | out.Clear ↦ None
      | out.Preempt ↦ preempt_refusal v p
      | out.PreemptAndAbort ↦ preempt_refusal v p
      | out.RegisterAndMove ↦ move_refusal v n p
    ]

-- REGISTER of either kind is no act where it takes keys away from nexuses that have none
abbrev pub register_act : State → Nexus → OutParams → Option Act
register_act v n p =
    if p.sark == 0 && not (list_any (is_registered v) (targets n p)) then None else Some (Register p.sark (targets n p))

-- the act that a command is, if it is one
abbrev pub act_of : State → Nexus → OutParams → Option Act
act_of v n p = elim p.act [
  | out.Register ↦ register_act v n p
  | out.RegisterAndIgnoreExistingKey ↦ register_act v n p
  | out.Reserve ↦ Some (Reserve (type_in p.scope_type))
  | out.Release ↦ Some (Release p.scope_type)
  | out.Clear ↦ Some Clear
  | out.Preempt ↦ Some (Preempt p.sark p.scope_type)
  | out.PreemptAndAbort ↦ Some (Preempt p.sark p.scope_type)
  | out.RegisterAndMove ↦ elim p.dest [ None ↦ None | Some d ↦ Some (Move p.sark d p.unreg) ]
]

-- what an accepted command leaves
abbrev pub applied : State → Nexus → OutParams → State
applied v n p = elim (act_of v n p) [ None ↦ v | Some a ↦ after v n a ]

-- what the act a of s tells a registered nexus n
abbrev pub told : State → Nexus → Act → Nexus → Option Kind
told v s (Register k targets) n =
    if k == 0 && is_registrants_only (res_type v) && list_any (is_sole_holder v) targets && not (is_among n targets)
    then Some ReservationsReleased else None
told v s (Release code) n = if is_holder v s && (is_registrants_only (res_type v) || is_all_held v) then Some ReservationsReleased else None
told v s Clear n = Some ReservationsPreempted
told v s (Preempt k code) n =
    if key_after v s (Preempt k code) n == 0 then Some RegistrationsPreempted
    else if takes v k && not (code == held_code v) then Some ReservationsReleased
    else None
told v s a n = None

-- whether those whom the act a of s leaves registered, and whom it doesn't name, are told that the reservation was released
abbrev pub is_releasing : State → Nexus → Act → Bool
is_releasing v s (Register k targets) = k == 0 && is_registrants_only (res_type v) && list_any (is_sole_holder v) targets
is_releasing v s (Release code) = is_holder v s && (is_registrants_only (res_type v) || is_all_held v)
is_releasing v s (Preempt k code) = takes v k && not (code == held_code v)
is_releasing v s a = false

-- what decides what the act a of s does to other nexuses
abbrev pub standing_of : State → Nexus → Act → Standing
standing_of v s a = record { is_taking = is_taking v a; is_all_held = is_all_held v; is_releasing = is_releasing v s a }

-- the attention that the act a of s raises for a registered nexus, if it does: never for the sender
abbrev pub raised_for : State → Nexus → Act → Nexus → Option (Nexus × Kind)
raised_for v s a n = if same_nexus n s then None else elim (told v s a n) [ None ↦ None | Some kind ↦ Some (n, kind) ]

-- the attentions that the act a of s raises, ascending by nexus
abbrev pub raised : State → Nexus → Act → List (Nexus × Kind)
raised v s a = filter_map (raised_for v s a) (registrants v)

-- whether the act a of another, s, ends a registration
abbrev pub is_removed : State → Nexus → Act → Nexus → Bool
is_removed v s a n = not (same_nexus n s) && key_after v s a n == 0

-- the nexuses that lose their key by the act a of another, s, ascending
abbrev pub removed : State → Nexus → Act → List Nexus
removed v s a = filter (is_removed v s a) (registrants v)

-- what a command that is no act, or this one, raises and removes
abbrev pub raised_by : State → Nexus → Option Act → List (Nexus × Kind)
raised_by v s None = []
raised_by v s (Some a) = raised v s a

abbrev pub removed_by : State → Nexus → Option Act → List Nexus
removed_by v s None = []
removed_by v s (Some a) = removed v s a
