-- What is judged leaves a legal trail.
use Rattle.std.proofs.Common.{◌≡◌, ℕ, Bool, true, false, ◌==◌, List, [], ◌∷◌, ◌++◌, Option, Some, None, Result, Ok, Err, refl, sym, ap, ◌∙◌, subst, inl, inr}
use Rattle.scsi_cdb.specs.declared.classes.Class.{Class}
use Rattle.scsi_cdb.specs.declared.classes.Class.TheVariants as class
use Rattle.scsi_nexus.specs.declared.nexus.Nexus.{Nexus}
use Rattle.scsi_sense.specs.declared.condition.Condition.{Condition}
use Rattle.scsi_sense.specs.declared.condition.Condition.TheVariants.{InvalidFieldInCdb, MediumRemovalPrevented}
use Rattle.scsi_sense.specs.declared.sense.Sense.{Sense}
use Rattle.scsi_sense.specs.declared.status.Status.{Status}
use Rattle.unit_attention.specs.declared.kind.Kind.{Kind}
use Rattle.unit_attention.specs.Queues.{has_slot, first_reset_of, first_other_of}
use Rattle.permit_tables.specs.declared.cell.Cell.{Cell}
use Rattle.pr_core.specs.Outcome.{refusal}
use Rattle.permit_tables.specs.declared.pr_fault.PrFault.{PrFault}
use Rattle.pr_core.specs.declared.verdict.Verdict.{Verdict}
use Rattle.pr_core.specs.declared.verdict.Verdict.TheVariants.{Allowed, Denied, Rule}
use Rattle.audit_log.specs.declared.act.Act.{Act}
use Rattle.audit_log.specs.declared.act.Act.TheVariants as act
use Rattle.audit_log.specs.declared.record.Record.{Record}
use Rattle.std.specs.Prelude.{if◌then◌else◌, cond, ◌&&◌}
use Rattle.audit_log.specs.declared.stage.Stage.TheVariants as stage
use Rattle.audit_log.specs.declared.stage.Stage.TheVariants.{ResetAttention, OtherAttention, Fields}
use Rattle.device_server.specs.Ends.{told_by}
use Rattle.device_server.specs.View.{DeviceView, profile_of, commands_of, field_fault, performed}
use Rattle.scsi_cdb.specs.declared.profile.Profile.{Profile}
use Rattle.scsi_cdb.specs.declared.request.Request.{Request}
use Rattle.scsi_cdb.specs.Classes.{class_of}
use Rattle.judgement.specs.declared.command.Command.{Command}
use Rattle.judgement.specs.declared.command.Command.TheVariants.{ReserveOut, ReserveIn, Inquiry, ReportLuns, RequestSense, Prevent, Device}
use Rattle.judgement.specs.declared.decision.Decision.{Decision}
use Rattle.judgement.specs.declared.reply.Reply.{Reply}
use Rattle.judgement.specs.Commands.{class_of_command, list_of, act_of_decoded}
use Rattle.judgement.specs.Conditions.{condition_of_attention, condition_of_refusal}
use Rattle.judgement.specs.Decisions.{at_stage, let_in, in_conflict}
use Rattle.judgement.specs.UnitData.{inquiry_of, selected_luns}
use Rattle.judgement.specs.Replies.{conflict, check, good, data_reply, IsWhole}
use Rattle.judgement.specs.UnitStateView.{UnitStateView}
use Rattle.judgement.specs.JudgedUnit.{JudgedUnit}
use Rattle.judgement.specs.UnitState.{has_room, after_contact, accepted, is_prevented, with_medium}
use Rattle.judgement.specs.Judge.{cell_of, waiting, sensed, senses, tells, steps, unloads, performs, at_cell, carried_out, let_through, checked, commanded, judged_as}
use Rattle.judgement.specs.Readings.{verdict_of, pending_of}
use Rattle.logical_unit.specs.MoveJudgement.{AwaitsEnd}
use Rattle.logical_unit.specs.Step.{record_of, event_of}
use Rattle.judgement.specs.UnitState.{kept_after_loss, kept_after_reset}
use Rattle.logical_unit.specs.Legal.{is_reserve_out, is_field_fault, reported_if, left_by_class, left_at, kept_by, kept_after, Says, SaysItsOwn, IsCarriedOut, IsLetThrough, IsChecked, IsCommand, IsJudged, AreJudged}
use Rattle.judgement.proofs.Carried.{prevents_by}
use Rattle.device_server.proofs.Outcomes.{performed_own}
use Rattle.logical_unit.proofs.DeviceCommands.{IsPlain, IsPlainIf}
use Rattle.logical_unit.proofs.FieldFaults.{IsFaultIf}
use Rattle.logical_unit.proofs.HostFaults.{fields_fit}

-- the record of a judgement
abbrev pub entry : ℕ → Nexus → Act → JudgedUnit × Decision × Reply → Record
entry m n a x = record_of m (Some n) a x.1 x.2.status x.2.sense

-- a judgement's record says the right thing, and what is kept is what it leaves
abbrev pub Fits : (Record → Type 0) → UnitStateView → Nexus → Command → ℕ → Act → JudgedUnit × Decision × Reply → Type 0
Fits J k n c m a x = J (entry m n a x) × (x.0.state ≡ left_at x.1.stage k n (list_of c) (class_of_command c) x.2.status x.1.told)

says : (m : ℕ) (n : Nexus) (a : Act) (f : Decision) (r : Reply) → Says (record_of m (Some n) a f r.status r.sense) f r
says m n a f r = record { stage = refl; cell = refl; rule = refl; told = refl; status = refl; sense = refl }

-- what a unit keeps is of the profile of its device
abbrev pub IsOfProfile : JudgedUnit → Type 0
IsOfProfile u = u.state.profile ≡ profile_of u.device

-- GOOD at the device's stage, and fields that are refused
good_says : (p : Profile) (m : ℕ) (n : Nexus) (a : Act) (at : Cell) (payload : List ℕ) → SaysItsOwn p (record_of m (Some n) a (let_in at stage.Device) (good payload).status (good payload).sense) at
good_says p m n a at payload = record {
  stage = inr refl;
  cell = refl;
  rule = refl;
  whole = inl (refl, refl);
  fields = λ e. absurd cc;
  unit = λ own e. refl;
  told = λ kind e. absurd cc;
}

field_says : (p : Profile) (m : ℕ) (n : Nexus) (a : Act) (at : Cell) (condition : Condition) → is_field_fault at.class condition ≡ true
    → SaysItsOwn p (record_of m (Some n) a (let_in at Fields) (check condition).status (check condition).sense) at
field_says p m n a at condition h = record {
  stage = inl refl;
  cell = refl;
  rule = refl;
  whole = inr (refl, refl);
  fields = λ e. record { condition = condition; of_class = h; status = refl; sense = refl };
  unit = λ own e. absurd cc;
  told = λ kind e. absurd cc;
}

data_says : (p : Profile) (m : ℕ) (n : Nexus) (a : Act) (at : Cell) (o : Option (List ℕ)) (l : ℕ) → is_field_fault at.class InvalidFieldInCdb ≡ true
    → SaysItsOwn p (record_of m (Some n) a (let_in at (data_reply o l).0) (data_reply o l).1.status (data_reply o l).1.sense) at
data_says p m n a at (Some payload) l h = good_says p m n a at payload
data_says p m n a at None l h = field_says p m n a at InvalidFieldInCdb h

data_left : (k : UnitStateView) (n : Nexus) (class : Class) (s : Status) (o : Option (List ℕ)) (l : ℕ) → k ≡ left_by_class k n class None → k ≡ left_at (data_reply o l).0 k n None class s None
data_left k n class s (Some payload) l h = h
data_left k n class s None l h = refl

sensed_fits : (u : JudgedUnit) (n : Nexus) (at : Cell) (l : ℕ) (m : ℕ) (a : Act) (o : Option Kind) → pending_of u.state.slots n ≡ o
    → Fits (λ e. SaysItsOwn u.state.profile e at) u.state n (RequestSense false l) m a (at_cell at (senses u (sensed u.state n l o)))
sensed_fits u n at l m a (Some kind) h = (good_says u.state.profile m n a at [], sym (ap (reported_if u.state n) h))
sensed_fits u n at l m a None h = (good_says u.state.profile m n a at [], sym (ap (reported_if u.state n) h))

prevent_fits : (u : JudgedUnit) (n : Nexus) (at : Cell) (m : ℕ) (a : Act) (zero one : Bool) → at.class ≡ (if zero then class.AllowRemoval else class.PreventRemoval)
    → SaysItsOwn u.state.profile (entry m n a (at_cell at (prevents_by u n zero one))) at
    × ((prevents_by u n zero one).0.state ≡ left_at (prevents_by u n zero one).1.stage u.state n None (if zero then class.AllowRemoval else class.PreventRemoval) (prevents_by u n zero one).2.status (prevents_by u n zero one).1.told)
prevent_fits u n at m a true one h = (good_says u.state.profile m n a at [], refl)
prevent_fits u n at m a false true h = (good_says u.state.profile m n a at [], refl)
prevent_fits u n at m a false false h = (field_says u.state.profile m n a at InvalidFieldInCdb (ap (λ k. is_field_fault k InvalidFieldInCdb) h), refl)

steps_fits : (u : JudgedUnit) (n : Nexus) (r : Request) (bytes : List ℕ) (m : ℕ) (a : Act) → IsOfProfile u → IsPlain (Device r) → (prevented : Bool)
    → Fits (IsCarriedOut u.state n None (class_of r)) u.state n (Device r) m a (at_cell (cell_of u n (Device r)) (cond prevented (u, at_stage stage.Device, check MediumRemovalPrevented) (steps u n (performed u.device r bytes))))
steps_fits u n r bytes m a of plain true = (
  record {
    stage = inr refl;
    cell = refl;
    rule = refl;
    whole = inr (refl, refl);
    fields = λ e. absurd cc;
    unit = λ own e. let no = plain.own in absurd cc;
    told = λ kind e. absurd cc;
  },
  plain.tells u.state n None,
)
steps_fits u n r bytes m a of plain false =
    let own = performed_own u.device r bytes in (
      record {
        stage = inr refl;
        cell = refl;
        rule = refl;
        whole = own.ended;
        fields = λ e. absurd cc;
        unit = λ every e. let no = plain.own in absurd cc;
        told = λ kind e. let telling = own.told kind e in record { class = ap (λ (p : Profile). told_by p (class_of r)) of ∙ telling.0; stage = refl; status = telling.1 };
      },
      plain.tells u.state n (performed u.device r bytes).1.told,
    )

performs_fits : (u : JudgedUnit) (n : Nexus) (r : Request) (bytes : List ℕ) (m : ℕ) (a : Act) → IsOfProfile u → IsPlain (Device r)
    → Fits (IsCarriedOut u.state n None (class_of r)) u.state n (Device r) m a (at_cell (cell_of u n (Device r)) (performs u n r bytes))
performs_fits u n r bytes m a of plain =
    elim (field_fault u.device r bytes) as (λ (o : Option Condition). IsFaultIf (class_of r) o → Fits (IsCarriedOut u.state n None (class_of r)) u.state n (Device r) m a (at_cell (cell_of u n (Device r)) (elim o [ Some condition ↦ (u, at_stage Fields, check condition) | None ↦ cond (unloads r && is_prevented u.state) (u, at_stage stage.Device, check MediumRemovalPrevented) (steps u n (performed u.device r bytes)) ]))) [
      | Some condition ↦ λ of_class. (field_says u.state.profile m n a (cell_of u n (Device r)) condition of_class, refl)
      | None ↦ λ nothing. steps_fits u n r bytes m a of plain (unloads r && is_prevented u.state)
    ] (fields_fit (commands_of u.device) r bytes)

carried_fits : (u : JudgedUnit) (n : Nexus) (c : Command) (bytes : List ℕ) (m : ℕ) (a : Act) → IsOfProfile u → IsPlain c
    → Fits (IsCarriedOut u.state n (list_of c) (class_of_command c)) u.state n c m a (at_cell (cell_of u n c) (carried_out u n c bytes))
carried_fits u n (ReserveOut p) bytes m a of plain =
    let at = cell_of u n (ReserveOut p) in
    elim (refusal u.state.reservations n p) as (λ (o : Option PrFault). Fits (λ e. elim o [ Some fault ↦ Says e (let_in at Fields) (check (condition_of_refusal fault)) | None ↦ Says e (let_in at stage.Device) (good []) ]) u.state n (ReserveOut p) m a (at_cell at (elim o [ Some fault ↦ (u, at_stage Fields, check (condition_of_refusal fault)) | None ↦ (record u { state = accepted u.state n p }, at_stage stage.Device, good []) ]))) [
      | Some fault ↦ (says m n a (let_in at Fields) (check (condition_of_refusal fault)), refl)
      | None ↦ (says m n a (let_in at stage.Device) (good []), refl)
    ]
carried_fits u n (ReserveIn act l) bytes m a of plain = (good_says u.state.profile m n a (cell_of u n (ReserveIn act l)) [], refl)
carried_fits u n (Inquiry e p l) bytes m a of plain =
    let o = inquiry_of u.device u.state.lun n.port e p in
    (data_says u.state.profile m n a (cell_of u n (Inquiry e p l)) o l refl, data_left u.state n class.Inquiry (data_reply o l).1.status o l refl)
carried_fits u n (ReportLuns s l) bytes m a of plain =
    let o = selected_luns u.state.units s in
    (data_says u.state.profile m n a (cell_of u n (ReportLuns s l)) o l refl, data_left u.state n class.ReportLuns (data_reply o l).1.status o l refl)
carried_fits u n (RequestSense true l) bytes m a of plain = (field_says u.state.profile m n a (cell_of u n (RequestSense true l)) InvalidFieldInCdb refl, refl)
carried_fits u n (RequestSense false l) bytes m a of plain = sensed_fits u n (cell_of u n (RequestSense false l)) l m a (pending_of u.state.slots n) refl
carried_fits u n (Prevent p) bytes m a of plain = prevent_fits u n (cell_of u n (Prevent p)) m a (p == 0) (p == 1) refl
carried_fits u n (Device r) bytes m a of plain = performs_fits u n r bytes m a of plain

let_through_as : (u : JudgedUnit) (n : Nexus) (c : Command) (bytes : List ℕ) (m : ℕ) (a : Act) → IsOfProfile u → IsPlain c → (o : Option Kind) → waiting (class_of_command c) (first_other_of u.state.slots n) ≡ o
    → Fits (λ e. elim o [ Some kind ↦ Says e (let_in (cell_of u n c) OtherAttention) (check (condition_of_attention kind)) | None ↦ IsCarriedOut u.state n (list_of c) (class_of_command c) e ]) u.state n c m a
    (elim o [ Some kind ↦ tells u n kind (let_in (cell_of u n c) OtherAttention) | None ↦ at_cell (cell_of u n c) (carried_out u n c bytes) ])
let_through_as u n c bytes m a of plain (Some kind) h = (says m n a (let_in (cell_of u n c) OtherAttention) (check (condition_of_attention kind)), sym (ap (reported_if u.state n) h))
let_through_as u n c bytes m a of plain None h = carried_fits u n c bytes m a of plain

let_through_fits : (u : JudgedUnit) (n : Nexus) (c : Command) (bytes : List ℕ) (m : ℕ) (a : Act) → IsOfProfile u → IsPlain c
    → Fits (IsLetThrough u.state n (list_of c) (class_of_command c)) u.state n c m a (let_through u n c bytes)
let_through_fits u n c bytes m a of plain = let_through_as u n c bytes m a of plain (waiting (class_of_command c) (first_other_of u.state.slots n)) refl

checked_fits : (u : JudgedUnit) (n : Nexus) (c : Command) (bytes : List ℕ) (m : ℕ) (a : Act) → IsOfProfile u → IsPlain c
    → Fits (IsChecked u.state n (list_of c) (class_of_command c)) u.state n c m a (checked u n c bytes)
checked_fits u n c bytes m a of plain =
    let at = cell_of u n c in
    elim (verdict_of u.state.reservations n c) as (λ (v : Verdict). Fits (λ e. elim v [ Allowed ↦ IsLetThrough u.state n (list_of c) (class_of_command c) e | Denied cell ↦ Says e (in_conflict at None) conflict | Rule rule ↦ Says e (in_conflict at (Some rule)) conflict ]) u.state n c m a
    (elim v [ Allowed ↦ let_through u n c bytes | Denied cell ↦ (u, in_conflict at None, conflict) | Rule rule ↦ (u, in_conflict at (Some rule), conflict) ])) [
      | Allowed ↦ let_through_fits u n c bytes m a of plain
      | Denied cell ↦ (says m n a (in_conflict at None) conflict, refl)
      | Rule rule ↦ (says m n a (in_conflict at (Some rule)) conflict, refl)
    ]

commanded_as : (u : JudgedUnit) (n : Nexus) (c : Command) (bytes : List ℕ) (m : ℕ) (a : Act) → IsOfProfile u → IsPlain c → (o : Option Kind) → waiting (class_of_command c) (first_reset_of u.state.slots n) ≡ o
    → Fits (λ e. elim o [ Some kind ↦ Says e (at_stage ResetAttention) (check (condition_of_attention kind)) | None ↦ IsChecked u.state n (list_of c) (class_of_command c) e ]) u.state n c m a
    (elim o [ Some kind ↦ tells u n kind (at_stage ResetAttention) | None ↦ checked u n c bytes ])
commanded_as u n c bytes m a of plain (Some kind) h = (says m n a (at_stage ResetAttention) (check (condition_of_attention kind)), sym (ap (reported_if u.state n) h))
commanded_as u n c bytes m a of plain None h = checked_fits u n c bytes m a of plain

commanded_fits : (u : JudgedUnit) (n : Nexus) (c : Command) (bytes : List ℕ) (m : ℕ) (a : Act) → IsOfProfile u → IsPlain c
    → Fits (IsCommand u.state n (list_of c) (class_of_command c)) u.state n c m a (commanded u n c bytes)
commanded_fits u n c bytes m a of plain = commanded_as u n c bytes m a of plain (waiting (class_of_command c) (first_reset_of u.state.slots n)) refl

-- a record that may stand after what was kept, with what is kept then
pub record IsNext (k : UnitStateView) (e : Record) (now : UnitStateView) : Type 0 where
  pub judged : IsJudged k e
  pub state : now ≡ kept_by k e

-- what doesn't stand with a list
listless_either : (b : Bool) → is_reserve_out (if b then class.AllowRemoval else class.PreventRemoval) ≡ false
listless_either true = refl
listless_either false = refl

judged_next : (k : UnitStateView) (d : DeviceView) (n : Nexus) (s : Result Command Condition) (bytes : List ℕ) (m : ℕ) → has_room k n ≡ true → k.profile ≡ profile_of d → IsPlainIf s
    → IsNext k (entry m n (act_of_decoded s) (judged_as (record { device = d; state = after_contact k n }) n s bytes)) (judged_as (record { device = d; state = after_contact k n }) n s bytes).0.state
judged_next k d n (Err condition) bytes m room of plain =
    record { judged = record { room = room; condition = condition; decoding = plain; says = says m n act.Invalid (at_stage stage.Decoding) (check condition) }; state = refl }
judged_next k d n (Ok (ReserveOut p)) bytes m room of plain =
    let f = commanded_fits (record { device = d; state = after_contact k n }) n (ReserveOut p) bytes m (act_of_decoded (Ok (ReserveOut p))) of plain in
    record { judged = record { room = room; judged = f.0 }; state = f.1 }
judged_next k d n (Ok (ReserveIn a l)) bytes m room of plain =
    let f = commanded_fits (record { device = d; state = after_contact k n }) n (ReserveIn a l) bytes m (act_of_decoded (Ok (ReserveIn a l))) of plain in
    record { judged = record { room = room; listless = refl; judged = f.0 }; state = f.1 }
judged_next k d n (Ok (Inquiry e p l)) bytes m room of plain =
    let f = commanded_fits (record { device = d; state = after_contact k n }) n (Inquiry e p l) bytes m (act_of_decoded (Ok (Inquiry e p l))) of plain in
    record { judged = record { room = room; listless = refl; judged = f.0 }; state = f.1 }
judged_next k d n (Ok (ReportLuns s l)) bytes m room of plain =
    let f = commanded_fits (record { device = d; state = after_contact k n }) n (ReportLuns s l) bytes m (act_of_decoded (Ok (ReportLuns s l))) of plain in
    record { judged = record { room = room; listless = refl; judged = f.0 }; state = f.1 }
judged_next k d n (Ok (RequestSense e l)) bytes m room of plain =
    let f = commanded_fits (record { device = d; state = after_contact k n }) n (RequestSense e l) bytes m (act_of_decoded (Ok (RequestSense e l))) of plain in
    record { judged = record { room = room; listless = refl; judged = f.0 }; state = f.1 }
judged_next k d n (Ok (Prevent p)) bytes m room of plain =
    let f = commanded_fits (record { device = d; state = after_contact k n }) n (Prevent p) bytes m (act_of_decoded (Ok (Prevent p))) of plain in
    record { judged = record { room = room; listless = listless_either (p == 0); judged = f.0 }; state = f.1 }
judged_next k d n (Ok (Device r)) bytes m room of plain =
    let f = commanded_fits (record { device = d; state = after_contact k n }) n (Device r) bytes m (act_of_decoded (Ok (Device r))) of plain in
    record { judged = record { room = room; listless = plain.listless; judged = f.0 }; state = f.1 }

AreJudged-push : (k : UnitStateView) (es : List Record) (e : Record) → AreJudged k es → IsJudged (kept_after k es) e → AreJudged k (es ++ e ∷ [])
AreJudged-push k [] e all last = (last, tt)
AreJudged-push k (x ∷ xs) e all last = (all.0, AreJudged-push (kept_by k x) xs e all.1 last)

kept_after-push : (k : UnitStateView) (es : List Record) (e : Record) → kept_after k (es ++ e ∷ []) ≡ kept_by (kept_after k es) e
kept_after-push k [] e = refl
kept_after-push k (x ∷ xs) e = kept_after-push (kept_by k x) xs e

-- what a unit's state promises of its records, with one more at the end
abbrev pub Stands : (base : UnitStateView) → List Record → UnitStateView → Type 0
Stands base es now = AreJudged base es × (now ≡ kept_after base es)

next_stands : (base state now : UnitStateView) (es : List Record) (e : Record) → Stands base es state → IsNext state e now → Stands base (es ++ e ∷ []) now
next_stands base state now es e old next =
    let there : IsNext (kept_after base es) e now = subst (λ k. IsNext k e now) old.1 next in
    (AreJudged-push base es e old.0 there.judged, there.state ∙ sym (kept_after-push base es e))

-- a command's record
pub answered_stands : (base state now : UnitStateView) (es : List Record) (d after : DeviceView) (n : Nexus) (s : Result Command Condition) (bytes : List ℕ) (m : ℕ) (a : Act) (f : Decision) (r : Reply)
    → Stands base es state → has_room state n ≡ true → state.profile ≡ profile_of d → IsPlainIf s → a ≡ act_of_decoded s
    → judged_as (record { device = d; state = after_contact state n }) n s bytes ≡ (record { device = after; state = now }, f, r)
    → Stands base (es ++ record_of m (Some n) a f r.status r.sense ∷ []) now
answered_stands base state now es d after n s bytes m a f r old room of plain asked judged =
    let next : IsNext state (record_of m (Some n) (act_of_decoded s) f r.status r.sense) now = subst (λ (x : JudgedUnit × Decision × Reply). IsNext state (entry m n (act_of_decoded s) x) x.0.state) judged (judged_next state d n s bytes m room of plain) in
    next_stands base state now es _ old (subst (λ (x : Act). IsNext state (record_of m (Some n) x f r.status r.sense) now) (sym asked) next)

-- the record of a command that judgement left open, ended by a whole answer
pub ended_stands : (base state : UnitStateView) (es : List Record) (n : Nexus) (status : Status) (sense : Option Sense) (a : Act) (f : Decision) (m : ℕ) → Stands base es state → AwaitsEnd state n a f → IsWhole status sense
    → Stands base (es ++ record_of m (Some n) a f status sense ∷ []) state
ended_stands base state es n status sense a f m old awaits whole =
    next_stands base state state es (record_of m (Some n) a f status sense) old (record { judged = awaits.judged m status sense whole; state = sym (awaits.state m status sense) })

-- the record of a loss, and of a reset
pub lost_stands : (base state : UnitStateView) (es : List Record) (n : Nexus) (m : ℕ) → has_slot state.slots n ≡ true → Stands base es state → Stands base (es ++ event_of m (Some n) act.Loss ∷ []) (kept_after_loss state n)
lost_stands base state es n m slot old =
    next_stands base state (kept_after_loss state n) es (event_of m (Some n) act.Loss) old (record { judged = record { slot = slot; says = record { stage = refl; cell = refl; rule = refl; told = refl; status = refl; sense = refl } }; state = refl })

pub reset_stands : (base state : UnitStateView) (es : List Record) (m : ℕ) → Stands base es state → Stands base (es ++ event_of m None act.Reset ∷ []) (kept_after_reset state)
reset_stands base state es m old =
    next_stands base state (kept_after_reset state) es (event_of m None act.Reset) old (record { judged = record { stage = refl; cell = refl; rule = refl; told = refl; status = refl; sense = refl }; state = refl })

-- the record of a volume that came in, and of one that was taken out
pub medium_in_stands : (base state : UnitStateView) (es : List Record) (m : ℕ) → Stands base es state → Stands base (es ++ event_of m None act.MediumIn ∷ []) (with_medium state)
medium_in_stands base state es m old =
    next_stands base state (with_medium state) es (event_of m None act.MediumIn) old (record { judged = record { stage = refl; cell = refl; rule = refl; told = refl; status = refl; sense = refl }; state = refl })

pub medium_out_stands : (base state : UnitStateView) (es : List Record) (m : ℕ) → is_prevented state ≡ false → Stands base es state → Stands base (es ++ event_of m None act.MediumOut ∷ []) state
medium_out_stands base state es m free old =
    next_stands base state state es (event_of m None act.MediumOut) old (record { judged = record { free = free; says = record { stage = refl; cell = refl; rule = refl; told = refl; status = refl; sense = refl } }; state = refl })
