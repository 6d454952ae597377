-- After its contact a command changes what waits in slots, and never which slots there are.
use Rattle.std.proofs.Common.{◌≡◌, ℕ, T, Bool, true, false, cond, ◌==◌, ◌&&◌, List, [], ◌∷◌, length, Option, Some, None, Result, Ok, Err, refl, ◌∙◌}
use Rattle.std.specs.List.{fold}
use Rattle.std.specs.FinMap.{is_sorted}
use Rattle.scsi_cdb.specs.declared.request.Request.{Request}
use Rattle.scsi_nexus.specs.declared.nexus.Nexus.{Nexus}
use Rattle.scsi_nexus.specs.Order.{nexus_cmp, same_nexus}
use Rattle.scsi_sense.specs.declared.condition.Condition.{Condition}
use Rattle.scsi_sense.specs.declared.condition.Condition.TheVariants.{MediumRemovalPrevented}
use Rattle.unit_attention.specs.declared.kind.Kind.{Kind}
use Rattle.unit_attention.specs.Pending.{with_kind, without_kind}
use Rattle.unit_attention.specs.Queues.{Slots, has_slot, with_change, raised, was_reset}
use Rattle.unit_attention.proofs.SlotLemmas.{sorted-change}
use Rattle.pr_core.specs.Outcome.{refusal, raised_by, act_of}
use Rattle.permit_tables.specs.declared.pr_fault.PrFault.{PrFault}
use Rattle.audit_log.specs.declared.stage.Stage.TheVariants as stage
use Rattle.audit_log.specs.declared.stage.Stage.TheVariants.{ResetAttention, OtherAttention, Fields}
use Rattle.device_server.specs.View.{field_fault, performed}
use Rattle.judgement.specs.declared.command.Command.{Command}
use Rattle.judgement.specs.declared.command.Command.TheVariants.{ReserveOut, ReserveIn, Inquiry, ReportLuns, RequestSense, Prevent, Device}
use Rattle.judgement.specs.declared.decision.Decision.{Decision}
use Rattle.judgement.specs.declared.reply.Reply.{Reply}
use Rattle.judgement.specs.Conditions.{condition_of_refusal}
use Rattle.judgement.specs.Decisions.{at_stage}
use Rattle.judgement.specs.Replies.{check}
use Rattle.judgement.specs.Replies.{good}
use Rattle.judgement.specs.JudgedUnit.{JudgedUnit}
use Rattle.judgement.specs.UnitState.{accepted, is_prevented, after_telling}
use Rattle.unit_attention.specs.Queues.{all_raised}
use Rattle.judgement.specs.UnitState.{with_slots, raised_for_all}
use Rattle.judgement.specs.Readings.{pending_of}
use Rattle.judgement.specs.Judge.{sensed, steps, unloads, performs, judged_as}
use Rattle.judgement.specs.Judge.{carried_out}
use Rattle.judgement.proofs.Carried.{prevents_by}
use Rattle.logical_unit.proofs.EndsOf.{by_ends}
use Rattle.unit_attention.proofs.SlotOf.{has_slot-change, length-change, has_slot-reset, length-reset, sorted-reset}

-- as many slots, of the same nexuses, ascending
pub record Shape (q r : Slots) : Type 0 where
  pub sorted : T (is_sorted nexus_cmp r)
  pub count : length r ≡ length q
  pub same : (m : Nexus) → has_slot r m ≡ has_slot q m

pub shape_self : (q : Slots) → T (is_sorted nexus_cmp q) → Shape q q
shape_self q s = record { sorted = s; count = refl; same = λ m. refl }

pub shape_then : (q r w : Slots) → Shape q r → Shape r w → Shape q w
shape_then q r w a b = record { sorted = b.sorted; count = b.count ∙ a.count; same = λ m. b.same m ∙ a.same m }

pub change-shape : (q : Slots) (n : Nexus) (f : List Kind → List Kind) → T (is_sorted nexus_cmp q) → Shape q (with_change q n f)
change-shape q n f s = record { sorted = sorted-change q n f s; count = length-change q n f s; same = λ m. has_slot-change q n m f }

all_raised-shape : (l : List (Nexus × Kind)) (q : Slots) → T (is_sorted nexus_cmp q) → Shape q (all_raised q l)
all_raised-shape [] q s = shape_self q s
all_raised-shape (a ∷ l) q s =
    let one = change-shape q a.0 (λ ks. with_kind ks a.1) s in
    shape_then q (raised q a.0 a.1) (all_raised (raised q a.0 a.1) l) one (all_raised-shape l (raised q a.0 a.1) one.sorted)

one_shape : (b : Bool) (q : Slots) (n : Nexus) (k : Kind) → T (is_sorted nexus_cmp q) → Shape q (cond b q (raised q n k))
one_shape true q n k s = shape_self q s
one_shape false q n k s = change-shape q n (λ ks. with_kind ks k) s

told-shape : (sender : Nexus) (k : Kind) (ns : List Nexus) (q : Slots) → T (is_sorted nexus_cmp q) → Shape q (fold (λ slots n. cond (same_nexus n sender) slots (raised slots n k)) q ns)
told-shape sender k [] q s = shape_self q s
told-shape sender k (n ∷ ns) q s =
    let one = one_shape (same_nexus n sender) q n k s in
    shape_then q _ _ one (told-shape sender k ns (cond (same_nexus n sender) q (raised q n k)) one.sorted)

pub reset-shape : (q : Slots) → T (is_sorted nexus_cmp q) → Shape q (was_reset q)
reset-shape q s = record { sorted = sorted-reset q s; count = length-reset q; same = λ m. has_slot-reset q m }

-- every slot is told of a volume that came in
all-shape : (k : Kind) (ns : List Nexus) (q : Slots) → T (is_sorted nexus_cmp q) → Shape q (fold (λ slots n. raised slots n k) q ns)
all-shape k [] q s = shape_self q s
all-shape k (n ∷ ns) q s =
    let one = change-shape q n (λ ks. with_kind ks k) s in
    shape_then q _ _ one (all-shape k ns (raised q n k) one.sorted)

pub told_all-shape : (q : Slots) (k : Kind) → T (is_sorted nexus_cmp q) → Shape q (raised_for_all q k)
told_all-shape q k s = all-shape k (with_slots q) q s

module _ (u : JudgedUnit) (n : Nexus) (s : T (is_sorted nexus_cmp u.state.slots)) where
  abbrev Keeps : JudgedUnit × Decision × Reply → Type 0
  Keeps x = Shape u.state.slots x.0.state.slots

  self : Shape u.state.slots u.state.slots
  self = shape_self u.state.slots s

  reported : (kind : Kind) → Shape u.state.slots (with_change u.state.slots n (λ ks. without_kind ks kind))
  reported kind = change-shape u.state.slots n (λ ks. without_kind ks kind) s

  sensed_keeps : (l : ℕ) (o : Option Kind) → Shape u.state.slots (sensed u.state n l o).0.slots
  sensed_keeps l (Some kind) = reported kind
  sensed_keeps l None = self

  prevents_keeps : (zero one : Bool) → Keeps (prevents_by u n zero one)
  prevents_keeps true one = self
  prevents_keeps false true = self
  prevents_keeps false false = self

  telling_keeps : (told : Option Kind) → Shape u.state.slots (after_telling u.state n told).slots
  telling_keeps None = self
  telling_keeps (Some kind) = told-shape n kind (with_slots u.state.slots) u.state.slots s

  steps_keeps : (r : Request) (bytes : List ℕ) (b : Bool) → Keeps (cond b (u, at_stage stage.Device, check MediumRemovalPrevented) (steps u n (performed u.device r bytes)))
  steps_keeps r bytes true = self
  steps_keeps r bytes false = telling_keeps (performed u.device r bytes).1.told

  performs_keeps : (r : Request) (bytes : List ℕ) → Keeps (performs u n r bytes)
  performs_keeps r bytes =
      elim (field_fault u.device r bytes) as (λ (o : Option Condition). Keeps (elim o [ Some condition ↦ (u, at_stage Fields, check condition) | None ↦ cond (unloads r && is_prevented u.state) (u, at_stage stage.Device, check MediumRemovalPrevented) (steps u n (performed u.device r bytes)) ])) [
        | Some condition ↦ self
        | None ↦ steps_keeps r bytes (unloads r && is_prevented u.state)
      ]

  carried_keeps : (c : Command) (bytes : List ℕ) → Keeps (carried_out u n c bytes)
  carried_keeps (ReserveOut p) bytes =
      elim (refusal u.state.reservations n p) as (λ (o : Option PrFault). Keeps (elim o [ Some fault ↦ (u, at_stage Fields, check (condition_of_refusal fault)) | None ↦ (record u { state = accepted u.state n p }, at_stage stage.Device, good []) ])) [
        | Some fault ↦ self
        | None ↦ all_raised-shape (raised_by u.state.reservations n (act_of u.state.reservations n p)) u.state.slots s
      ]
  carried_keeps (ReserveIn a l) bytes = self
  carried_keeps (Inquiry e p l) bytes = self
  carried_keeps (ReportLuns x l) bytes = self
  carried_keeps (RequestSense true l) bytes = self
  carried_keeps (RequestSense false l) bytes = sensed_keeps l (pending_of u.state.slots n)
  carried_keeps (Prevent p) bytes = prevents_keeps (p == 0) (p == 1)
  carried_keeps (Device r) bytes = performs_keeps r bytes

  pub judged_shape : (c : Result Command Condition) (bytes : List ℕ) → Keeps (judged_as u n c bytes)
  judged_shape (Err condition) bytes = self
  judged_shape (Ok c) bytes = by_ends (λ (v : JudgedUnit). Shape u.state.slots v.state.slots) u n c bytes self reported (λ _. carried_keeps c bytes)
