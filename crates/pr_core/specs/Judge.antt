-- How a PERSISTENT RESERVE OUT command is judged: the permission table, and then the rules on keys (SPC-4, "PERSISTENT
-- RESERVE OUT command").
use Rattle.std.specs.Prelude.{ℕ, Bool, false, not, ◌&&◌, ◌||◌, ◌==◌, if◌then◌else◌, List, Option, None, Some}
use Rattle.std.specs.List.{list_any}
use Rattle.scsi_cdb.specs.declared.service_action.OutServiceAction.TheVariants.{Register, Reserve, Preempt, PreemptAndAbort, RegisterAndIgnoreExistingKey, RegisterAndMove}
use Rattle.scsi_cdb.specs.Classes.{class_of_action}
use Rattle.scsi_nexus.specs.declared.nexus.Nexus.{Nexus}
use Rattle.permit_tables.specs.Permission.{is_allowed}
use Rattle.permit_tables.specs.Types.{code_of}
use Rattle.permit_tables.specs.declared.out_params.OutParams.{OutParams}
use Rattle.permit_tables.specs.declared.key_rule.KeyRule.{KeyRule}
use Rattle.permit_tables.specs.declared.key_rule.KeyRule.TheVariants.{K1, K2, K3, K4, K5, K6}
use Rattle.pr_core.specs.declared.verdict.Verdict.{Verdict}
use Rattle.pr_core.specs.declared.verdict.Verdict.TheVariants.{Allowed, Denied, Rule}
use Rattle.pr_core.specs.Targets.{targets}
use Rattle.pr_core.specs.State.{State, key, is_registered, is_all_held, is_holder, res_type, role, cell}

-- the byte of scope and type of the reservation in force
abbrev pub held_code : State → ℕ
held_code v = code_of (res_type v)

-- whether some nexus has this key
abbrev pub is_known_key : State → ℕ → Bool
is_known_key v k = list_any (λ e. e.1 == k) v.keys

-- whether one of these nexuses is unregistered, though there is a reservation key
abbrev pub has_unregistered : State → (rk : ℕ) → List Nexus → Bool
has_unregistered v rk targets = list_any (λ n. not (is_registered v n) && not (rk == 0)) targets

-- whether one of these nexuses is registered with another key
abbrev pub has_other_key : State → (rk : ℕ) → List Nexus → Bool
has_other_key v rk targets = list_any (λ n. is_registered v n && not (rk == key v n)) targets

-- REGISTER with a key that names an unregistered nexus
abbrev pub breaks_first : State → Nexus → OutParams → Bool
breaks_first v n p = elim p.act [ Register ↦ has_unregistered v p.rk (targets n p) | _ ↦ false ]

-- REGISTER that names a nexus registered with another key
abbrev pub breaks_second : State → Nexus → OutParams → Bool
breaks_second v n p = elim p.act [ Register ↦ has_other_key v p.rk (targets n p) | _ ↦ false ]

-- any act that doesn't register its sender, without the sender's key
abbrev pub breaks_third : State → Nexus → OutParams → Bool
breaks_third v n p = elim p.act [
  | Register ↦ false
  | RegisterAndIgnoreExistingKey ↦ false
  | _ ↦ not (is_registered v n) || not (p.rk == key v n)
]

-- RESERVE by a holder with another scope or type
abbrev pub breaks_fourth : State → Nexus → OutParams → Bool
breaks_fourth v n p = elim p.act [ Reserve ↦ is_holder v n && not (p.scope_type == held_code v) | _ ↦ false ]

-- a preemption of a key that nobody has
abbrev pub preempts_nobody : State → OutParams → Bool
preempts_nobody v p = not (p.sark == 0) && not (is_known_key v p.sark)

abbrev pub breaks_fifth : State → Nexus → OutParams → Bool
breaks_fifth v n p = elim p.act [ Preempt ↦ preempts_nobody v p | PreemptAndAbort ↦ preempts_nobody v p | _ ↦ false ]

-- REGISTER AND MOVE under an all registrants type
abbrev pub breaks_sixth : State → Nexus → OutParams → Bool
breaks_sixth v n p = elim p.act [ RegisterAndMove ↦ is_all_held v | _ ↦ false ]

-- the first rule that the command breaks
abbrev pub broken_rule : State → Nexus → OutParams → Option KeyRule
broken_rule v n p =
    if breaks_first v n p then Some K1
    else if breaks_second v n p then Some K2
    else if breaks_third v n p then Some K3
    else if breaks_fourth v n p then Some K4
    else if breaks_fifth v n p then Some K5
    else if breaks_sixth v n p then Some K6
    else None

-- the permission table, and then the rules on keys
abbrev pub verdict : State → Nexus → OutParams → Verdict
verdict v n p =
    if is_allowed (class_of_action p.act) (res_type v) (role v n)
    then elim (broken_rule v n p) [ None ↦ Allowed | Some rule ↦ Rule rule ]
    else Denied (cell v n (class_of_action p.act))
