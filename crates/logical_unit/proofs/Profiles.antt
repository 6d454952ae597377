-- What a unit keeps stays of the profile of its device.
use Rattle.std.proofs.Common.{◌≡◌, ℕ, Bool, true, false, List, [], ◌∷◌, Option, Some, None, Result, Ok, Err, OnOk, OnErr, refl, sym, ap, ◌∙◌, subst}
use Rattle.std.specs.Prelude.{cond}
use Rattle.scsi_cdb.specs.Classes.{class_of_action}
use Rattle.scsi_cdb.specs.declared.classes.Class.{Class}
use Rattle.scsi_cdb.specs.declared.classes.Class.TheVariants.{RequestSense, PreventRemoval, AllowRemoval}
use Rattle.scsi_nexus.specs.declared.nexus.Nexus.{Nexus}
use Rattle.scsi_sense.specs.declared.status.Status.{Status}
use Rattle.unit_attention.specs.declared.kind.Kind.{Kind}
use Rattle.unit_attention.specs.Queues.{first_reset_of, first_other_of}
use Rattle.permit_tables.specs.declared.out_params.OutParams.{OutParams}
use Rattle.audit_log.specs.declared.act.Act.{Act}
use Rattle.audit_log.specs.declared.act.Act.TheVariants as act
use Rattle.audit_log.specs.declared.record.Record.{Record}
use Rattle.audit_log.specs.declared.stage.Stage.{Stage}
use Rattle.audit_log.specs.declared.stage.Stage.TheVariants.{ResetAttention, OtherAttention, Device}
use Rattle.tape_medium.specs.declared.volume.Volume.{Volume}
use Rattle.tape_medium.specs.declared.volume.VolumeTag.{VolumeTag}
use Rattle.device_server.specs.Ends.{IsSameDevice}
use Rattle.device_server.specs.Settled.{SameButSettled}
use Rattle.device_server.specs.View.{DeviceView, Drive, Changer, profile_of, commands_of, taken, put, marked}
use Rattle.device_server.specs.declared.fault.BadPlace.{BadPlace}
use Rattle.device_server.proofs.MarkLemmas.{drives_give, drives_get, changers_give, changers_get, marks_one}
use Rattle.device_server.proofs.SettledLemmas.{same_settled}
use Rattle.judgement.proofs.Carried.{judged_is}
use Rattle.judgement.specs.Commands.{decoded_command}
use Rattle.judgement.specs.History.{is_good}
use Rattle.judgement.specs.Judge.{waiting}
use Rattle.judgement.specs.Readings.{pending_of}
use Rattle.judgement.specs.UnitState.{after_contact, accepted, after_telling}
use Rattle.judgement.specs.UnitStateView.{UnitStateView}
use Rattle.judgement.specs.declared.reply.Reply.{Reply}
use Rattle.logical_unit.specs.Legal.{reported_if, left_by_class, left_by, left_at, left_as, kept_by, kept_after, IsTrail}
use Rattle.logical_unit.specs.MoveJudgement.{Begins, IsLeftOpen, StaysIf}
use Rattle.logical_unit.specs.declared.move_judgement.MoveJudgement.{MoveJudgement}
use Rattle.logical_unit.specs.declared.move_judgement.MoveJudgement.TheVariants.{Answered, Left}
use Rattle.logical_unit.specs.declared.route.Errand.{Errand}
use Rattle.logical_unit.specs.Move.{errand_noted}
use Rattle.logical_unit.specs.Step.{contacted_present, answered}
use Rattle.logical_unit.proofs.SameUnits.{errand_same}
use Rattle.logical_unit.specs.UnitView.{Base, UnitView, RecordedUnitView, unit_of}

-- a device from which a volume was taken, or into which one was put, is the same one
taken_same : (d e : DeviceView) (place : ℕ) (volume : Volume) → taken d place ≡ Ok (volume, e) → IsSameDevice d e
taken_same (Drive d) e place volume takes = (drives_give (Drive d) e place volume refl takes).device
taken_same (Changer c) e place volume takes = (changers_give (Changer c) e place volume refl takes).device

pub taken_profile : (d e : DeviceView) (place : ℕ) (volume : Volume) → taken d place ≡ Ok (volume, e) → profile_of e ≡ profile_of d
taken_profile d e place volume takes = (taken_same d e place volume takes).profile

put_same : (d e : DeviceView) (place : ℕ) (volume : Volume) → put d place volume ≡ Ok e → IsSameDevice d e
put_same (Drive d) e place volume puts = (drives_get (Drive d) e place volume refl puts).device
put_same (Changer c) e place volume puts = (changers_get (Changer c) e place volume refl puts).device

pub put_profile : (d e : DeviceView) (place : ℕ) (volume : Volume) → put d place volume ≡ Ok e → profile_of e ≡ profile_of d
put_profile d e place volume puts = (put_same d e place volume puts).profile

-- and so is one at which a mark was noted, or an errand, or a volume settled
pub noted_profile : (d e : DeviceView) (place : ℕ) (tag : Option VolumeTag) (r : Result (Unit {0}) BadPlace)
    → OnOk r (marked d place tag ≡ Ok e) → OnErr r (e ≡ d) → profile_of e ≡ profile_of d
noted_profile d e place tag (Ok done) ok same = (marks_one d e place tag ok).device.profile
noted_profile d e place tag (Err fault) ok same = ap profile_of same

pub errand_profile : (errand : Errand) (d : DeviceView) → profile_of (errand_noted errand d) ≡ profile_of d
errand_profile errand d = (errand_same errand d).profile

pub settled_profile : (d e : DeviceView) → SameButSettled d e → profile_of e ≡ profile_of d
settled_profile d e same = (same_settled d e same).profile

-- and so is what a command leaves
pub answered_profile : (d e : DeviceView) (old new : RecordedUnitView) (n : Nexus) (cdb bytes : List ℕ) (r : Reply)
    → answered (unit_of d old) n cdb bytes ≡ (unit_of e new, r) → old.state.profile ≡ profile_of d → new.state.profile ≡ profile_of e
answered_profile d e old new n cdb bytes r answer of =
    let same = (judged_is (contacted_present (unit_of d old) n) n (decoded_command (commands_of d) cdb bytes) bytes).same in
    subst (λ (x : UnitView × Reply). x.0.state.profile ≡ profile_of x.0.device) answer (same.profile ∙ of ∙ sym same.device.device.profile)

pub begun_profile : (d e : DeviceView) (old new : RecordedUnitView) (n : Nexus) (cdb bytes : List ℕ) (errand : Errand) (begun : MoveJudgement)
    → Begins (unit_of d old) (unit_of e new) n cdb bytes errand begun → StaysIf old new begun → (IsLeftOpen begun → e ≡ d)
    → old.state.profile ≡ profile_of d → new.state.profile ≡ profile_of e
begun_profile d e old new n cdb bytes errand (Answered reply) begins stays device of = answered_profile d e old new n cdb bytes reply begins.answer of
begun_profile d e old new n cdb bytes errand (Left act decision) begins stays device of =
    ap (λ (s : RecordedUnitView). s.state.profile) stays ∙ of ∙ sym (ap profile_of (device tt))

-- A RECORD, by what was asked and at which stage it was answered, leaves the profile
reported_profile : (k : UnitStateView) (n : Nexus) (o : Option Kind) → (reported_if k n o).profile ≡ k.profile
reported_profile k n None = refl
reported_profile k n (Some kind) = refl

telling_profile : (k : UnitStateView) (n : Nexus) (o : Option Kind) → (after_telling k n o).profile ≡ k.profile
telling_profile k n None = refl
telling_profile k n (Some kind) = refl

by_class_profile : (k : UnitStateView) (n : Nexus) (class : Class) (told : Option Kind) → (left_by_class k n class told).profile ≡ k.profile
by_class_profile k n RequestSense told = reported_profile k n (pending_of k.slots n)
by_class_profile k n PreventRemoval told = refl
by_class_profile k n AllowRemoval told = refl
by_class_profile k n class told = telling_profile k n told

accepted_profile : (k : UnitStateView) (n : Nexus) (params : OutParams) (good : Bool) → (cond good (accepted k n params) k).profile ≡ k.profile
accepted_profile k n params true = refl
accepted_profile k n params false = refl

by_profile : (k : UnitStateView) (n : Nexus) (list : Option OutParams) (class : Class) (status : Status) (told : Option Kind)
    → (left_by k n list class status told).profile ≡ k.profile
by_profile k n (Some params) class status told = accepted_profile k n params (is_good status)
by_profile k n None class status told = by_class_profile k n class told

at_profile : (stage : Stage) (k : UnitStateView) (n : Nexus) (list : Option OutParams) (class : Class) (status : Status) (told : Option Kind)
    → (left_at stage k n list class status told).profile ≡ k.profile
at_profile ResetAttention k n list class status told = reported_profile k n (waiting class (first_reset_of k.slots n))
at_profile OtherAttention k n list class status told = reported_profile k n (waiting class (first_other_of k.slots n))
at_profile Device k n list class status told = by_profile k n list class status told
at_profile stage k n list class status told = refl

without_profile : (k : UnitStateView) (a : Act) (stage : Stage) (status : Status) (told : Option Kind) → (left_as k None a stage status told).profile ≡ k.profile
without_profile k act.Reset stage status told = refl
without_profile k act.MediumIn stage status told = refl
without_profile k a stage status told = refl

as_profile : (k : UnitStateView) (nexus : Option Nexus) (a : Act) (stage : Stage) (status : Status) (told : Option Kind)
    → (left_as k nexus a stage status told).profile ≡ k.profile
as_profile k (Some n) (act.Command class) stage status told = at_profile stage (after_contact k n) n None class status told
as_profile k (Some n) (act.ReserveOut params) stage status told =
    at_profile stage (after_contact k n) n (Some params) (class_of_action params.act) status told
as_profile k (Some n) act.Invalid stage status told = refl
as_profile k (Some n) act.Loss stage status told = refl
as_profile k (Some n) act.Reset stage status told = refl
as_profile k (Some n) act.MediumIn stage status told = refl
as_profile k (Some n) act.MediumOut stage status told = refl
as_profile k None a stage status told = without_profile k a stage status told

kept_by_profile : (k : UnitStateView) (e : Record) → (kept_by k e).profile ≡ k.profile
kept_by_profile k e = as_profile k e.nexus e.act e.stage e.status e.told

kept_after_profile : (k : UnitStateView) (es : List Record) → (kept_after k es).profile ≡ k.profile
kept_after_profile k [] = refl
kept_after_profile k (e ∷ es) = kept_after_profile (kept_by k e) es ∙ kept_by_profile k e

pub trail_profile : (base : Base) (es : List Record) (now : UnitStateView) → IsTrail base es now → now.profile ≡ base.state.profile
trail_profile base es now trail = ap (λ (k : UnitStateView). k.profile) trail.present ∙ kept_after_profile base.state es
