-- What devices do that are the same but for how many objects of each tape count as unchanged.
use Rattle.std.specs.Prelude.{◌≡◌, ℕ, List, [], ◌∷◌, Option, Result, Ok, Err}
use Rattle.scsi_cdb.specs.declared.request.Request.{Request}
use Rattle.tape_medium.specs.declared.volume.Volume.{Volume}
use Rattle.tape_medium.specs.declared.volume.VolumeTag.{VolumeTag}
use Rattle.tape_medium.specs.Settling.{settled_to}
use Rattle.device_server.specs.declared.fault.TakeFault.{TakeFault}
use Rattle.device_server.specs.declared.outcome.Outcome.{Outcome}
use Rattle.device_server.specs.Failures.{leaves_to_drives}
use Rattle.device_server.specs.Settled.{SameButSettled}
use Rattle.device_server.specs.View.{DeviceView, kind_of, profile_of, identity_of, drives_of, held_in, field_fault, performed, taken, put, marked, journeyed, exchange_journeyed, reset_of}

-- the same volume, but for how many objects of its tape count as unchanged
abbrev pub SameVolumeButSettled : (one two : Volume) → Type 0
SameVolumeButSettled one two = settled_to 0 one ≡ settled_to 0 two

-- A STEP of each device: the same outcome, and devices that are the same but settled again
abbrev pub StepAlike : (one two : DeviceView × Outcome) → Type 0
StepAlike one two = SameButSettled one.0 two.0 × (one.1 ≡ two.1)

-- what each gives up: the same volume but settled, or the same refusal
abbrev pub TakenAlike : (one two : Result (Volume × DeviceView) TakeFault) → Type 0
TakenAlike (Ok one) (Ok two) = SameVolumeButSettled one.0 two.0 × SameButSettled one.1 two.1
TakenAlike (Ok one) (Err fault) = ⊥
TakenAlike (Err fault) (Ok two) = ⊥
TakenAlike (Err one) (Err two) = one ≡ two

-- what each is afterwards, or the same refusal
abbrev pub ChangedAlike : {F : Type 0} → (one two : Result DeviceView F) → Type 0
ChangedAlike (Ok one) (Ok two) = SameButSettled one two
ChangedAlike (Ok one) (Err fault) = ⊥
ChangedAlike (Err fault) (Ok two) = ⊥
ChangedAlike (Err one) (Err two) = one ≡ two

-- WHAT THEY SHOW is the same: the kind, the profile, the identity, the number of data transfer elements, each tag, and which moves are left to
-- the drives
pub record ShownAlike (one two : DeviceView) : Type 0 where
  pub kind : kind_of one ≡ kind_of two
  pub profile : profile_of one ≡ profile_of two
  pub identity : identity_of one ≡ identity_of two
  pub drives : drives_of one ≡ drives_of two
  pub held : (place : ℕ) → held_in one place ≡ held_in two place
  pub leaves : (request : Request) → leaves_to_drives one request ≡ leaves_to_drives two request

abbrev pub ShowAlike : Type 0
ShowAlike = (one two : DeviceView) → SameButSettled one two → ShownAlike one two

-- COMMANDS: the fields of each are refused at both or at neither, and each is performed alike
abbrev pub RefuseAlike : Type 0
RefuseAlike = (one two : DeviceView) (request : Request) (bytes : List ℕ) → SameButSettled one two
    → field_fault one request bytes ≡ field_fault two request bytes

abbrev pub PerformAlike : Type 0
PerformAlike = (one two : DeviceView) (request : Request) (bytes : List ℕ) → SameButSettled one two
    → StepAlike (performed one request bytes) (performed two request bytes)

-- A RESET, AND VOLUMES that go out and in, with the marks of them, and their journeys
abbrev pub ResetAlike : Type 0
ResetAlike = (one two : DeviceView) → SameButSettled one two → SameButSettled (reset_of one) (reset_of two)

abbrev pub GiveAlike : Type 0
GiveAlike = (one two : DeviceView) (place : ℕ) → SameButSettled one two → TakenAlike (taken one place) (taken two place)

abbrev pub PutAlike : Type 0
PutAlike = (one two : DeviceView) (place : ℕ) (v w : Volume) → SameButSettled one two → SameVolumeButSettled v w
    → ChangedAlike (put one place v) (put two place w)

abbrev pub MarkAlike : Type 0
MarkAlike = (one two : DeviceView) (place : ℕ) (tag : Option VolumeTag) → SameButSettled one two
    → ChangedAlike (marked one place tag) (marked two place tag)

abbrev pub JourneyAlike : Type 0
JourneyAlike = (one two : DeviceView) (source destination : ℕ) → SameButSettled one two
    → SameButSettled (journeyed one source destination) (journeyed two source destination)

abbrev pub ExchangeAlike : Type 0
ExchangeAlike = (one two : DeviceView) (source first second : ℕ) → SameButSettled one two
    → SameButSettled (exchange_journeyed one source first second) (exchange_journeyed two source first second)

-- COMMANDS ONE AFTER ANOTHER, each with the data sent with it: the outcomes, and the device afterwards
abbrev pub outcomes : DeviceView → List (Request × List ℕ) → List Outcome
outcomes device [] = []
outcomes device (command ∷ commands) =
    let step = performed device command.0 command.1 in step.1 ∷ outcomes step.0 commands

abbrev pub device_after : DeviceView → List (Request × List ℕ) → DeviceView
device_after device [] = device
device_after device (command ∷ commands) = device_after (performed device command.0 command.1).0 commands

-- the same, where an attendant may look after the device at any time between two of them
pub data Attended : DeviceView → List (Request × List ℕ) → List Outcome → DeviceView → Type 0 where
  ends : (device : DeviceView) → Attended device [] [] device
  attends : (before after last : DeviceView) (commands : List (Request × List ℕ)) (told : List Outcome) → SameButSettled before after
      → Attended after commands told last → Attended before commands told last
  performs : (device last : DeviceView) (request : Request) (bytes : List ℕ) (commands : List (Request × List ℕ)) (told : List Outcome)
      → Attended (performed device request bytes).0 commands told last
      → Attended device ((request, bytes) ∷ commands) ((performed device request bytes).1 ∷ told) last

abbrev pub AttendedAnswersAlike : Type 0
AttendedAnswersAlike = (device last : DeviceView) (commands : List (Request × List ℕ)) (told : List Outcome) → Attended device commands told last
    → (told ≡ outcomes device commands) × SameButSettled last (device_after device commands)
