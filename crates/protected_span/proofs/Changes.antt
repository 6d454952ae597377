-- What a command leaves of the reservations: nothing new, or what an accepted act leaves.
use Rattle.std.proofs.Common.{◌≡◌, ℕ, Bool, true, false, cond, ◌==◌, ◌&&◌, List, [], Option, Some, None, Result, Ok, Err, refl, sym, ap, subst, inl, inr}
use Rattle.std.specs.Prelude.{◌⊎◌}
use Rattle.scsi_cdb.specs.declared.request.Request.{Request}
use Rattle.scsi_nexus.specs.declared.nexus.Nexus.{Nexus}
use Rattle.scsi_sense.specs.declared.condition.Condition.{Condition}
use Rattle.scsi_sense.specs.declared.condition.Condition.TheVariants.{MediumRemovalPrevented}
use Rattle.unit_attention.specs.declared.kind.Kind.{Kind}
use Rattle.permit_tables.specs.declared.out_params.OutParams.{OutParams}
use Rattle.pr_core.specs.Acts.{Act}
use Rattle.pr_core.specs.State.{State, after}
use Rattle.pr_core.specs.Judge.{verdict}
use Rattle.pr_core.specs.Outcome.{refusal, act_of, applied}
use Rattle.permit_tables.specs.declared.pr_fault.PrFault.{PrFault}
use Rattle.pr_core.specs.declared.verdict.Verdict.TheVariants.{Allowed}
use Rattle.pr_core.proofs.KeyLaws.{proper-after}
use Rattle.pr_core.proofs.RoomForKeys.{room}
use Rattle.audit_log.specs.declared.stage.Stage.TheVariants as stage
use Rattle.audit_log.specs.declared.stage.Stage.TheVariants.{ResetAttention, OtherAttention, Fields}
use Rattle.device_server.specs.View.{commands_of, field_fault, performed}
use Rattle.judgement.specs.declared.command.Command.{Command}
use Rattle.judgement.specs.declared.command.Command.TheVariants.{ReserveOut, ReserveIn, Inquiry, ReportLuns, RequestSense, Prevent, Device}
use Rattle.judgement.specs.declared.decision.Decision.{Decision}
use Rattle.judgement.specs.declared.reply.Reply.{Reply}
use Rattle.judgement.specs.Conditions.{condition_of_refusal}
use Rattle.judgement.specs.Decisions.{at_stage}
use Rattle.judgement.specs.Replies.{check}
use Rattle.judgement.specs.Replies.{good}
use Rattle.judgement.specs.Commands.{decoded_command}
use Rattle.judgement.specs.JudgedUnit.{JudgedUnit}
use Rattle.logical_unit.specs.UnitView.{UnitView}
use Rattle.judgement.specs.UnitState.{accepted, is_prevented, after_telling}
use Rattle.judgement.specs.Readings.{verdict_of, pending_of}
use Rattle.judgement.specs.Judge.{sensed, steps, unloads, performs, judged_as}
use Rattle.judgement.specs.Judge.{carried_out}
use Rattle.logical_unit.specs.Step.{contacted_present, Executes}
use Rattle.judgement.proofs.Carried.{prevents_by}
use Rattle.protected_span.proofs.InsidersView.{IsTable}
use Rattle.logical_unit.proofs.EndsOf.{by_ends}

-- an act that is allowed and not refused
pub record Accepts (v : State) (n : Nexus) (w : State) : Type 0 where
  pub params : OutParams
  pub allowed : verdict v n params ≡ Allowed
  pub free : refusal v n params ≡ None
  pub is : w ≡ applied v n params

abbrev pub Change : State → Nexus → State → Type 0
Change v n w = (w ≡ v) ⊎ Accepts v n w

module _ (u : JudgedUnit) (n : Nexus) where
  abbrev Changes : JudgedUnit × Decision × Reply → Type 0
  Changes x = Change u.state.reservations n x.0.state.reservations

  sensed_changes : (l : ℕ) (o : Option Kind) → Change u.state.reservations n (sensed u.state n l o).0.reservations
  sensed_changes l (Some kind) = inl refl
  sensed_changes l None = inl refl

  prevents_changes : (zero one : Bool) → Changes (prevents_by u n zero one)
  prevents_changes true one = inl refl
  prevents_changes false true = inl refl
  prevents_changes false false = inl refl

  telling_changes : (told : Option Kind) → Change u.state.reservations n (after_telling u.state n told).reservations
  telling_changes None = inl refl
  telling_changes (Some kind) = inl refl

  steps_changes : (r : Request) (bytes : List ℕ) (b : Bool) → Changes (cond b (u, at_stage stage.Device, check MediumRemovalPrevented) (steps u n (performed u.device r bytes)))
  steps_changes r bytes true = inl refl
  steps_changes r bytes false = telling_changes (performed u.device r bytes).1.told

  performs_changes : (r : Request) (bytes : List ℕ) → Changes (performs u n r bytes)
  performs_changes r bytes =
      elim (field_fault u.device r bytes) as (λ (o : Option Condition). Changes (elim o [ Some condition ↦ (u, at_stage Fields, check condition) | None ↦ cond (unloads r && is_prevented u.state) (u, at_stage stage.Device, check MediumRemovalPrevented) (steps u n (performed u.device r bytes)) ])) [
        | Some condition ↦ inl refl
        | None ↦ steps_changes r bytes (unloads r && is_prevented u.state)
      ]

  carried_changes : (c : Command) (bytes : List ℕ) → verdict_of u.state.reservations n c ≡ Allowed → Changes (carried_out u n c bytes)
  carried_changes (ReserveOut p) bytes v =
      elim (refusal u.state.reservations n p) as (λ (o : Option PrFault). refusal u.state.reservations n p ≡ o → Changes (elim o [ Some fault ↦ (u, at_stage Fields, check (condition_of_refusal fault)) | None ↦ (record u { state = accepted u.state n p }, at_stage stage.Device, good []) ])) [
        | Some fault ↦ λ e. inl refl
        | None ↦ λ e. inr (record { params = p; allowed = v; free = e; is = refl })
      ] refl
  carried_changes (ReserveIn a l) bytes v = inl refl
  carried_changes (Inquiry e p l) bytes v = inl refl
  carried_changes (ReportLuns s l) bytes v = inl refl
  carried_changes (RequestSense true l) bytes v = inl refl
  carried_changes (RequestSense false l) bytes v = sensed_changes l (pending_of u.state.slots n)
  carried_changes (Prevent p) bytes v = prevents_changes (p == 0) (p == 1)
  carried_changes (Device r) bytes v = performs_changes r bytes

  pub judged_changes : (c : Result Command Condition) (bytes : List ℕ) → Changes (judged_as u n c bytes)
  judged_changes (Err condition) bytes = inl refl
  judged_changes (Ok c) bytes = by_ends (λ (v : JudgedUnit). Change u.state.reservations n v.state.reservations) u n c bytes (inl refl) (λ kind. inl refl) (carried_changes c bytes)

pub executes_changes : (u v : UnitView) (n : Nexus) (cdb bytes : List ℕ) (r : Reply) → Executes u n cdb bytes (v, r) → Change u.state.reservations n v.state.reservations
executes_changes u v n cdb bytes r (inl e) = inl (ap (λ (x : UnitView × Reply). x.0.state.reservations) e)
executes_changes u v n cdb bytes r (inr e) =
    subst (λ (x : UnitView × Reply). Change u.state.reservations n x.0.state.reservations) (sym e.2) (judged_changes (contacted_present u n) n (decoded_command (commands_of u.device) cdb bytes) bytes)

table_after : (v : State) (n : Nexus) (p : OutParams) → IsTable v → verdict v n p ≡ Allowed → refusal v n p ≡ None → IsTable (applied v n p)
table_after v n p t allowed free =
    elim (act_of v n p) as (λ (o : Option Act). act_of v n p ≡ o → IsTable (elim o [ None ↦ v | Some a ↦ after v n a ])) [
      | None ↦ λ e. t
      | Some a ↦ λ e. record { proper = proper-after v n a; room = room v n p a t.proper t.room free allowed e }
    ] refl

pub change_table : (v : State) (n : Nexus) (w : State) → Change v n w → IsTable v → IsTable w
change_table v n w (inl same) t = subst IsTable (sym same) t
change_table v n w (inr a) t = subst IsTable (sym a.is) (table_after v n a.params t a.allowed a.free)
