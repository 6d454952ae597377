-- What holds of each command that is carried out by its own rules, and so of each command that is judged.
use Rattle.std.proofs.Common.{◌≡◌, ℕ, Bool, true, false, ◌==◌, List, [], Option, Some, None, Result, Ok, Err, refl, sym, inl, inr}
use Rattle.std.specs.Prelude.{◌≢◌, cond, ◌&&◌, if◌then◌else◌}
use Rattle.scsi_cdb.specs.declared.request.Request.{Request}
use Rattle.scsi_nexus.specs.declared.nexus.Nexus.{Nexus}
use Rattle.scsi_sense.specs.declared.condition.Condition.{Condition}
use Rattle.scsi_sense.specs.declared.condition.Condition.TheVariants.{InvalidFieldInCdb, MediumRemovalPrevented}
use Rattle.scsi_sense.specs.declared.sense.Sense.{Sense}
use Rattle.scsi_sense.specs.declared.status.Status.{Status}
use Rattle.scsi_sense.specs.declared.status.Status.TheVariants.{Good, CheckCondition, Busy, ReservationConflict}
use Rattle.unit_attention.specs.declared.kind.Kind.{Kind}
use Rattle.pr_core.specs.State.{State}
use Rattle.pr_core.specs.Outcome.{refusal}
use Rattle.permit_tables.specs.declared.pr_fault.PrFault.{PrFault}
use Rattle.permit_tables.specs.declared.cell.Cell.{Cell}
use Rattle.audit_log.specs.declared.stage.Stage.TheVariants as stage
use Rattle.audit_log.specs.declared.stage.Stage.TheVariants.{Fields}
use Rattle.device_server.specs.View.{DeviceView, field_fault, performed}
use Rattle.judgement.specs.declared.command.Command.{Command}
use Rattle.judgement.specs.declared.command.Command.TheVariants.{ReserveOut, ReserveIn, Inquiry, ReportLuns, RequestSense, Prevent, Device}
use Rattle.judgement.specs.Conditions.{condition_of_refusal}
use Rattle.judgement.specs.UnitData.{inquiry_of, selected_luns}
use Rattle.judgement.specs.declared.reply.Reply.{Reply}
use Rattle.judgement.specs.Replies.{check, good, data_reply, IsWhole}
use Rattle.judgement.specs.UnitStateView.{UnitStateView}
use Rattle.judgement.specs.UnitState.{accepted, prevented, allowed, is_prevented, after_telling}
use Rattle.judgement.specs.Readings.{pending_of}
use Rattle.judgement.specs.declared.decision.Decision.{Decision}
use Rattle.judgement.specs.Decisions.{at_stage}
use Rattle.judgement.specs.History.{accepted_as, after_history}
use Rattle.judgement.specs.JudgedUnit.{JudgedUnit}
use Rattle.judgement.specs.Judge.{cell_of, sensed, tells, steps, unloads, performs, at_cell, carried_out, let_through, judged_as}
use Rattle.device_server.specs.Marks.{KeepsMarks}
use Rattle.device_server.proofs.Outcomes.{performed_own}
use Rattle.device_server.proofs.MarkLemmas.{commands_keep_marks}
use Rattle.judgement.proofs.Ways.{by_let_through, by_ways}

-- a present with a device of the same kind and marks, its number, its target's units and their profile as they were
pub record IsSame (u v : JudgedUnit) : Type 0 where
  pub device : KeepsMarks u.device v.device
  pub lun : v.state.lun ≡ u.state.lun
  pub units : v.state.units ≡ u.state.units
  pub profile : v.state.profile ≡ u.state.profile

-- of a command, or of bytes that decode to none: the unit stays the same one, and its reservations are what the history says
pub record IsKept (u : JudgedUnit) (n : Nexus) (c : Result Command Condition) (x : JudgedUnit × Decision × Reply) : Type 0 where
  pub same : IsSame u x.0
  pub reservations : x.0.state.reservations ≡ after_history u.state.reservations (accepted_as n x.2.status c)

-- and of a command by its own rules: GOOD without sense data, or CHECK CONDITION with it
pub record IsCarried (u : JudgedUnit) (n : Nexus) (c : Command) (x : JudgedUnit × Decision × Reply) : Type 0 where
  pub state : IsKept u n (Ok c) x
  pub whole : IsWhole x.2.status x.2.sense

same_device : (d : DeviceView) → KeepsMarks d d
same_device d = record { device = record { kind = refl; profile = refl; identity = refl; drives = refl }; marks = refl }

same_as : (u : JudgedUnit) → IsSame u u
same_as u = record { device = same_device u.device; lun = refl; units = refl; profile = refl }

module _ (u : JudgedUnit) (n : Nexus) where
  -- a refusal that changes nothing
  checks : (at : Cell) (c : Command) (f : Decision) (condition : Condition) → after_history u.state.reservations (accepted_as n CheckCondition (Ok c)) ≡ u.state.reservations
      → IsCarried u n c (at_cell at (u, f, check condition))
  checks at c f condition h = record { state = record { same = same_as u; reservations = sym h }; whole = inr (refl, refl) }

  data_is : (at : Cell) (c : Command) (o : Option (List ℕ)) (l : ℕ) → ((s : Status) → after_history u.state.reservations (accepted_as n s (Ok c)) ≡ u.state.reservations)
      → IsCarried u n c (at_cell at (u, at_stage (data_reply o l).0, (data_reply o l).1))
  data_is at c (Some payload) l h = record { state = record { same = same_as u; reservations = sym (h Good) }; whole = inl (refl, refl) }
  data_is at c None l h = record { state = record { same = same_as u; reservations = sym (h CheckCondition) }; whole = inr (refl, refl) }

  sensed_is : (at : Cell) (l : ℕ) (o : Option Kind) → let x : UnitStateView × Decision × Reply = sensed u.state n l o in IsCarried u n (RequestSense false l) (at_cell at (record u { state = x.0 }, x.1, x.2))
  sensed_is at l (Some kind) = record { state = record { same = record { device = same_device u.device; lun = refl; units = refl; profile = refl }; reservations = refl }; whole = inl (refl, refl) }
  sensed_is at l None = record { state = record { same = same_as u; reservations = refl }; whole = inl (refl, refl) }

  -- PREVENT ALLOW MEDIUM REMOVAL, by whether it says 0, and whether it says 1
  abbrev pub prevents_by : (zero one : Bool) → JudgedUnit × Decision × Reply
  prevents_by zero one =
      if zero then (record u { state = allowed u.state n }, at_stage stage.Device, good [])
      else if one then (record u { state = prevented u.state n }, at_stage stage.Device, good [])
      else (u, at_stage Fields, check InvalidFieldInCdb)

  prevents_is : (at : Cell) (p : ℕ) (zero one : Bool) → IsCarried u n (Prevent p) (at_cell at (prevents_by zero one))
  prevents_is at p true one = record { state = record { same = record { device = same_device u.device; lun = refl; units = refl; profile = refl }; reservations = refl }; whole = inl (refl, refl) }
  prevents_is at p false true = record { state = record { same = record { device = same_device u.device; lun = refl; units = refl; profile = refl }; reservations = refl }; whole = inl (refl, refl) }
  prevents_is at p false false = checks at (Prevent p) (at_stage Fields) InvalidFieldInCdb refl

  telling_is : (d : DeviceView) (told : Option Kind) → KeepsMarks u.device d → IsSame u (record { device = d; state = after_telling u.state n told }) × ((after_telling u.state n told).reservations ≡ u.state.reservations)
  telling_is d None h = (record { device = h; lun = refl; units = refl; profile = refl }, refl)
  telling_is d (Some kind) h = (record { device = h; lun = refl; units = refl; profile = refl }, refl)

  steps_is : (at : Cell) (r : Request) (bytes : List ℕ) (prevented : Bool)
      → IsCarried u n (Device r) (at_cell at (cond prevented (u, at_stage stage.Device, check MediumRemovalPrevented) (steps u n (performed u.device r bytes))))
  steps_is at r bytes true = checks at (Device r) (at_stage stage.Device) MediumRemovalPrevented refl
  steps_is at r bytes false =
      let step = performed u.device r bytes in
      let telling = telling_is step.0 step.1.told (commands_keep_marks u.device r bytes) in
      record { state = record { same = telling.0; reservations = telling.1 }; whole = (performed_own u.device r bytes).ended }

  performs_is : (at : Cell) (r : Request) (bytes : List ℕ) → IsCarried u n (Device r) (at_cell at (performs u n r bytes))
  performs_is at r bytes =
      elim (field_fault u.device r bytes) as (λ (o : Option Condition). IsCarried u n (Device r) (at_cell at (elim o [ Some condition ↦ (u, at_stage Fields, check condition) | None ↦ cond (unloads r && is_prevented u.state) (u, at_stage stage.Device, check MediumRemovalPrevented) (steps u n (performed u.device r bytes)) ]))) [
        | Some condition ↦ checks at (Device r) (at_stage Fields) condition refl
        | None ↦ steps_is at r bytes (unloads r && is_prevented u.state)
      ]

  pub carried_is : (at : Cell) (c : Command) (bytes : List ℕ) → IsCarried u n c (at_cell at (carried_out u n c bytes))
  carried_is at (ReserveOut p) bytes =
      elim (refusal u.state.reservations n p) as (λ (o : Option PrFault). IsCarried u n (ReserveOut p) (at_cell at (elim o [ Some fault ↦ (u, at_stage Fields, check (condition_of_refusal fault)) | None ↦ (record u { state = accepted u.state n p }, at_stage stage.Device, good []) ]))) [
        | Some fault ↦ checks at (ReserveOut p) (at_stage Fields) (condition_of_refusal fault) refl
        | None ↦ record { state = record { same = record { device = same_device u.device; lun = refl; units = refl; profile = refl }; reservations = refl }; whole = inl (refl, refl) }
      ]
  carried_is at (ReserveIn a l) bytes = record { state = record { same = same_as u; reservations = refl }; whole = inl (refl, refl) }
  carried_is at (Inquiry e p l) bytes = data_is at (Inquiry e p l) (inquiry_of u.device u.state.lun n.port e p) l (λ s. refl)
  carried_is at (ReportLuns s l) bytes = data_is at (ReportLuns s l) (selected_luns u.state.units s) l (λ t. refl)
  carried_is at (RequestSense true l) bytes = checks at (RequestSense true l) (at_stage Fields) InvalidFieldInCdb refl
  carried_is at (RequestSense false l) bytes = sensed_is at l (pending_of u.state.slots n)
  carried_is at (Prevent p) bytes = prevents_is at p (p == 0) (p == 1)
  carried_is at (Device r) bytes = performs_is at r bytes

-- an answer that isn't GOOD adds nothing to the history
nothing_added : (v : State) (n : Nexus) (c : Command) → (s : Status) → s ≢ Good → v ≡ after_history v (accepted_as n s (Ok c))
nothing_added v n (ReserveOut p) Good h = absurd (h refl)
nothing_added v n (ReserveOut p) CheckCondition h = refl
nothing_added v n (ReserveOut p) Busy h = refl
nothing_added v n (ReserveOut p) ReservationConflict h = refl
nothing_added v n (ReserveIn a l) s h = refl
nothing_added v n (Inquiry e p l) s h = refl
nothing_added v n (ReportLuns t l) s h = refl
nothing_added v n (RequestSense d l) s h = refl
nothing_added v n (Prevent p) s h = refl
nothing_added v n (Device r) s h = refl

told_is : (u : JudgedUnit) (n : Nexus) (c : Command) (kind : Kind) (f : Decision) → IsKept u n (Ok c) (tells u n kind f)
told_is u n c kind f = record { same = record { device = same_device u.device; lun = refl; units = refl; profile = refl }; reservations = nothing_added u.state.reservations n c CheckCondition (λ e. cc) }

-- what is judged is the same unit, with what the history says of its reservations
pub judged_is : (u : JudgedUnit) (n : Nexus) (c : Result Command Condition) (bytes : List ℕ) → IsKept u n c (judged_as u n c bytes)
judged_is u n (Err condition) bytes = record { same = same_as u; reservations = refl }
judged_is u n (Ok c) bytes =
    by_ways (IsKept u n (Ok c)) u n c bytes (λ kind. told_is u n c kind _)
    (λ v barred. record { same = same_as u; reservations = nothing_added u.state.reservations n c ReservationConflict (λ e. cc) })
    (λ kind. told_is u n c kind _) (carried_is u n (cell_of u n c) c bytes).state

-- what a status can be that is GOOD or CHECK CONDITION
whole_free : (s : Status) (o : Option Sense) → IsWhole s o → s ≢ Busy
whole_free s o (inl w) e = cc
whole_free s o (inr w) e = cc

whole_allowed : (s : Status) (o : Option Sense) → IsWhole s o → s ≢ ReservationConflict
whole_allowed s o (inl w) e = cc
whole_allowed s o (inr w) e = cc

-- what is judged isn't answered BUSY
pub judged_free : (u : JudgedUnit) (n : Nexus) (c : Result Command Condition) (bytes : List ℕ) → (judged_as u n c bytes).2.status ≢ Busy
judged_free u n (Err condition) bytes = λ e. cc
judged_free u n (Ok c) bytes =
    let carried = carried_is u n (cell_of u n c) c bytes in
    by_ways (λ x. x.2.status ≢ Busy) u n c bytes (λ kind e. cc) (λ v barred e. cc) (λ kind e. cc) (whole_free _ _ carried.whole)

-- what the reservation check lets through doesn't end in a conflict
pub let_through_allowed : (u : JudgedUnit) (n : Nexus) (c : Command) (bytes : List ℕ) → (let_through u n c bytes).2.status ≢ ReservationConflict
let_through_allowed u n c bytes =
    let carried = carried_is u n (cell_of u n c) c bytes in
    by_let_through (λ x. x.2.status ≢ ReservationConflict) u n c bytes (λ kind e. cc) (whole_allowed _ _ carried.whole)
