-- Worked rows: a run of a changer and a drive that is a span, with its struck run; and what isn't a span's step, the same reply, the same
-- ending, or told alike.
use Rattle.std.specs.Prelude.{◌≡◌, ℕ, Bool, true, false, not, List, [], ◌∷◌, replicate, Some, None}
use Rattle.std.specs.Global.{Vec}
use Rattle.permit_tables.specs.declared.res_type.ResType.TheVariants as type
use Rattle.scsi_cdb.specs.declared.kind.Kind.TheVariants as kind
use Rattle.scsi_cdb.specs.declared.profile.Profile.TheVariants.{Spec}
use Rattle.scsi_cdb.specs.Kinds.{commands}
use Rattle.scsi_sense.specs.declared.sense.Sense.{Sense}
use Rattle.scsi_sense.specs.declared.status.Status.{Status}
use Rattle.scsi_sense.specs.declared.status.Status.TheVariants.{Good, CheckCondition, Busy, ReservationConflict}
use Rattle.pr_core.specs.State.{State}
use Rattle.tape_medium.specs.Elements.{empty_elements}
use Rattle.tape_medium.specs.Tape.{blank}
use Rattle.tape_medium.specs.declared.volume.VolumeTag.{VolumeTag}
use Rattle.device_server.specs.HostChanger.{spec_changer}
use Rattle.device_server.specs.View.{DeviceView, Drive, Changer}
use Rattle.judgement.specs.declared.reply.Reply.{Reply}
use Rattle.judgement.specs.Commands.{decoded_command}
use Rattle.logical_unit.specs.Step.{made}
use Rattle.logical_unit.specs.UnitView.{UnitView}
use Rattle.target_core.specs.declared.event.Event.{Event}
use Rattle.target_core.specs.declared.event.Event.TheVariants as event
use Rattle.protected_span.specs.Rows.{a, b, held_by_a, unit_with}
use Rattle.protected_span.specs.Span.{is_the_holder, is_read, HolderStep, GroupStep, IsHolderSpan, IsGroupSpan}
use Rattle.protected_span.specs.Struck.{struck, RunsThrough, IsServed, is_exact, SameReply, Tells, EndsAlike, Serves}

-- THE UNITS: a changer at power on, and the drive, with its tape loaded, as A holds it
abbrev pub changer : UnitView
changer = made (Changer (spec_changer (empty_elements 1 8 0))) 0 2 0

abbrev pub drive : VolumeTag → UnitView
drive tag = unit_with tag held_by_a []

abbrev pub units : VolumeTag → List UnitView
units tag = changer ∷ drive tag ∷ []

-- and as a group shares it in which A alone is
abbrev pub shared_by_a : State
shared_by_a = record held_by_a { reservation = Some (type.Earo, a) }

abbrev pub shared_drive : VolumeTag → UnitView
shared_drive tag = unit_with tag shared_by_a []

abbrev pub shared_units : VolumeTag → List UnitView
shared_units tag = changer ∷ shared_drive tag ∷ []

-- a drive whose tape isn't loaded
abbrev pub unloaded : VolumeTag → DeviceView
unloaded tag = Drive (record { bay = Some (record { tag = tag; protected = false; tape = blank 1000 }); loaded = false; block_length = 0; hosts = None })

-- WHAT COMES, with any data: B's WRITE(6) of two bytes to the drive, A's LOAD UNLOAD there, which unloads, B's TEST UNIT READY to the
-- changer, and a loss of B at the drive
abbrev pub write : Vec ℕ → Event
write bytes = event.Command b 1 (record { items = 0x0A ∷ 0 ∷ 0 ∷ 0 ∷ 2 ∷ 0 ∷ [] }) bytes

abbrev pub unload : Vec ℕ → Event
unload bytes = event.Command a 1 (record { items = 0x1B ∷ replicate 5 0 }) bytes

abbrev pub ready : Vec ℕ → Event
ready bytes = event.Command b 0 (record { items = replicate 6 0 }) bytes

abbrev pub lost : Event
lost = event.Loss b 1

abbrev pub row : Vec ℕ → List Event
row bytes = write bytes ∷ unload bytes ∷ ready bytes ∷ lost ∷ []

-- a status with the number of its record, and CHECK CONDITION with 29h/00h
abbrev pub ends : Status → (number : ℕ) → Reply
ends status number = record { status = status; sense = None; payload = []; number = number }

abbrev pub power_on : Sense
power_on = record { valid = false; filemark = false; eom = false; ili = false; key = 6; information = 0; asc = 0x29; ascq = 0 }

abbrev pub told : Sense → (number : ℕ) → Reply
told sense number = record { status = CheckCondition; sense = Some sense; payload = []; number = number }

-- A SPAN, AND ITS STRUCK RUN: in what is left, A's LOAD UNLOAD and the loss have the drive's first two numbers

abbrev pub replies : List Reply
replies = ends ReservationConflict 1 ∷ ends Good 2 ∷ told power_on 1 ∷ ends Good 3 ∷ []

abbrev pub struck_replies : List Reply
struck_replies = ends Good 1 ∷ told power_on 1 ∷ ends Good 2 ∷ []

-- whether data are to be the same, in a span of A
abbrev pub exact : Event → Bool
exact = is_exact 1 (λ n cdb bytes. not (is_read (decoded_command (commands Spec kind.Drive) cdb bytes)))

pub record WorkedRuns (tag : VolumeTag) (bytes : Vec ℕ) : Type 0 where
  -- the changer and the drive in the end, and without B's WRITE(6)
  pub changer_last : UnitView
  pub last : UnitView
  pub struck_last : UnitView
  pub span : IsHolderSpan 1 a (units tag) (drive tag) (row bytes) replies (changer_last ∷ last ∷ [])
  pub struck : RunsThrough IsServed (units tag) (struck 1 (is_the_holder a) (row bytes)) struck_replies (changer_last ∷ struck_last ∷ [])
  pub serves : Serves (units tag) (unload bytes ∷ ready bytes ∷ lost ∷ [])
  pub device : last.device ≡ unloaded tag
  pub struck_device : struck_last.device ≡ unloaded tag
  pub ends : EndsAlike 1 (changer_last ∷ last ∷ []) (changer_last ∷ struck_last ∷ [])
  pub tells : Tells 1 (is_the_holder a) exact (row bytes) replies struck_replies

-- the same of a group
pub record WorkedGroupRuns (tag : VolumeTag) (bytes : Vec ℕ) : Type 0 where
  pub changer_last : UnitView
  pub last : UnitView
  pub struck_last : UnitView
  pub span : IsGroupSpan 1 (is_the_holder a) (shared_units tag) (shared_drive tag) (row bytes) replies (changer_last ∷ last ∷ [])
  pub struck : RunsThrough IsServed (shared_units tag) (struck 1 (is_the_holder a) (row bytes)) struck_replies (changer_last ∷ struck_last ∷ [])
  pub serves : Serves (shared_units tag) (unload bytes ∷ ready bytes ∷ lost ∷ [])
  pub device : last.device ≡ unloaded tag
  pub struck_device : struck_last.device ≡ unloaded tag
  pub ends : EndsAlike 1 (changer_last ∷ last ∷ []) (changer_last ∷ struck_last ∷ [])
  pub tells : Tells 1 (is_the_holder a) (is_exact 1 (λ n cdb bytes. true)) (row bytes) replies struck_replies

-- WHAT IS NO STEP of a span: BUSY, the end of A's hold, and A's key changed by B; nor is BUSY served
abbrev pub Step : VolumeTag → Vec ℕ → Reply → State → Type 0
Step tag bytes r v = HolderStep 1 a (units tag) (write bytes) r (changer ∷ unit_with tag v [] ∷ [])

abbrev pub SharedStep : VolumeTag → Vec ℕ → Reply → State → Type 0
SharedStep tag bytes r v = GroupStep 1 (is_the_holder a) (shared_units tag) (write bytes) r (changer ∷ unit_with tag v [] ∷ [])

pub record NoSteps (tag : VolumeTag) (bytes : Vec ℕ) : Type 0 where
  pub step : Step tag bytes (ends ReservationConflict 1) held_by_a
  pub busy : Step tag bytes (ends Busy 0) held_by_a → ⊥
  pub released : Step tag bytes (ends ReservationConflict 1) (record held_by_a { reservation = None }) → ⊥
  pub moved : Step tag bytes (ends ReservationConflict 1) (record held_by_a { reservation = Some (type.Ea, b) }) → ⊥
  pub another_key : Step tag bytes (ends ReservationConflict 1) (record held_by_a { keys = (a, 9) ∷ [] }) → ⊥
  pub shared_step : SharedStep tag bytes (ends ReservationConflict 1) shared_by_a
  pub shared_busy : SharedStep tag bytes (ends Busy 0) shared_by_a → ⊥
  pub shared_released : SharedStep tag bytes (ends ReservationConflict 1) (record shared_by_a { reservation = None }) → ⊥
  pub one_more : SharedStep tag bytes (ends ReservationConflict 1) (record shared_by_a { keys = (a, 1) ∷ (b, 2) ∷ [] }) → ⊥
  pub served : IsServed (units tag) (write bytes) (ends ReservationConflict 1) (units tag)
  pub unserved : IsServed (units tag) (write bytes) (ends Busy 0) (units tag) → ⊥
  -- no run answers B's WRITE(6) GOOD, or has a reply too few or too many
  pub good : (vs : List UnitView) → RunsThrough IsServed (units tag) (write bytes ∷ []) (ends Good 1 ∷ []) vs → ⊥
  pub too_few : (vs : List UnitView) → RunsThrough IsServed (units tag) (write bytes ∷ []) [] vs → ⊥
  pub too_many : (vs : List UnitView) → RunsThrough IsServed (units tag) [] (ends Good 1 ∷ []) vs → ⊥

-- THE SAME REPLY

abbrev pub one_byte : Reply
one_byte = record (ends Good 3) { payload = 7 ∷ [] }

pub record SameReplies : Type 0 where
  pub same : SameReply true true one_byte one_byte
  pub status : SameReply false false one_byte (record one_byte { status = ReservationConflict }) → ⊥
  pub sense : SameReply false false (told power_on 3) (told (record power_on { ascq = 7 }) 3) → ⊥
  pub no_sense : SameReply false false (told power_on 3) (record (told power_on 3) { sense = None }) → ⊥
  pub payload : SameReply true false one_byte (record one_byte { payload = 8 ∷ [] }) → ⊥
  pub longer : SameReply true false one_byte (record one_byte { payload = 7 ∷ 8 ∷ [] }) → ⊥
  pub any_payload : SameReply false true one_byte (record one_byte { payload = 8 ∷ [] })
  pub number : SameReply false true one_byte (record one_byte { number = 4 }) → ⊥
  pub any_number : SameReply true false one_byte (record one_byte { number = 4 })

-- TOLD ALIKE: beside the replies to the row, others to what is left of it
abbrev pub ToldAs : Vec ℕ → List Reply → Type 0
ToldAs bytes qs = Tells 1 (is_the_holder a) exact (row bytes) replies qs

pub record ToldAlike (bytes : Vec ℕ) : Type 0 where
  pub another_number : ToldAs bytes (ends Good 9 ∷ told power_on 1 ∷ ends Good 8 ∷ [])
  pub another_status : ToldAs bytes (ends ReservationConflict 1 ∷ told power_on 1 ∷ ends Good 2 ∷ []) → ⊥
  pub another_payload : ToldAs bytes (record (ends Good 1) { payload = 7 ∷ [] } ∷ told power_on 1 ∷ ends Good 2 ∷ []) → ⊥
  pub another_sense : ToldAs bytes (ends Good 1 ∷ told (record power_on { ascq = 7 }) 1 ∷ ends Good 2 ∷ []) → ⊥
  pub elsewhere_another_number : ToldAs bytes (ends Good 1 ∷ told power_on 2 ∷ ends Good 2 ∷ []) → ⊥
  pub loss_refused : ToldAs bytes (ends Good 1 ∷ told power_on 1 ∷ told power_on 2 ∷ []) → ⊥
  pub one_missing : ToldAs bytes (ends Good 1 ∷ told power_on 1 ∷ []) → ⊥
  pub one_more : ToldAs bytes (ends ReservationConflict 1 ∷ ends Good 1 ∷ told power_on 1 ∷ ends Good 2 ∷ []) → ⊥

-- ENDING ALIKE: the drive's device, and all of the changer
abbrev pub EndsAs : VolumeTag → List UnitView → Type 0
EndsAs tag ws = EndsAlike 1 (units tag) ws

pub record EndingAlike (tag : VolumeTag) : Type 0 where
  pub same : EndsAs tag (units tag)
  pub another_registration : EndsAs tag (changer ∷ shared_drive tag ∷ [])
  pub another_device : EndsAs tag (changer ∷ record (drive tag) { device = unloaded tag } ∷ []) → ⊥
  pub another_changer : EndsAs tag (record changer { device = Changer (spec_changer (empty_elements 1 9 0)) } ∷ drive tag ∷ []) → ⊥
  pub told_changer : EndsAs tag (record changer { state = record changer.state { slots = (b, []) ∷ [] } } ∷ drive tag ∷ []) → ⊥
  pub one_more : EndsAs tag (changer ∷ drive tag ∷ changer ∷ []) → ⊥
