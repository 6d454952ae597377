-- A stream of a session of a library of a profile cut into frames, piece by piece.
use Rattle.std.specs.Prelude.{◌≡◌, ℕ, Bool, false, List, [], ◌∷◌, ◌++◌, map, Option, Some, None, Result, Ok, Err}
use Rattle.scsi_cdb.specs.declared.profile.Profile.{Profile}
use Rattle.frames.specs.declared.fault.FrameFault.{FrameFault}
use Rattle.frames.specs.Frames.{FrameValue, Login, Command, Reset, Logout}
use Rattle.frames.specs.Stream.{Stop, Waiting, Broken, Reads, Feeds}
use Rattle.session.specs.declared.frame.Frame.{Frame}
use Rattle.session.specs.declared.frame.Frame.TheVariants as frame
use Rattle.session.specs.declared.fault.SessionFault.{SessionFault}
use Rattle.session.specs.Faults.{of_frame}

-- what a frame with bytes of its own says
abbrev pub value_of_frame : Frame → FrameValue
value_of_frame (frame.Login nexus) = Login nexus
value_of_frame (frame.Command lun cdb bytes) = Command lun cdb.items bytes.items
value_of_frame (frame.Reset lun) = Reset lun
value_of_frame frame.Logout = Logout

abbrev pub values_of_frames : List Frame → List FrameValue
values_of_frames frames = map value_of_frame frames

-- where a splitter stands
abbrev pub stopped : Option FrameFault → (logged : Bool) → (rest : List ℕ) → Stop
stopped None logged rest = Waiting logged rest
stopped (Some fault) logged rest = Broken fault

-- what it answers there
abbrev pub answer : Stop → Result (Unit {0}) SessionFault
answer (Waiting logged rest) = Ok tt
answer (Broken fault) = Err (of_frame fault)

-- the frames of what was pending are added
abbrev pub Given : Profile → (logged : Bool) → (pending : List ℕ) → (out out' : List FrameValue) → Stop → Type 0
Given profile logged pending out out' stop = (frames : List FrameValue) × (out' ≡ out ++ frames) × Reads profile logged pending frames stop

-- the frames of one more piece are added
abbrev pub Fed : Profile → Stop → (piece : List ℕ) → (out out' : List FrameValue) → Stop → Type 0
Fed profile before piece out out' after = (frames : List FrameValue) × (out' ≡ out ++ frames) × Feeds profile before piece frames after

-- pieces that are fed one after another, and the frames of all
abbrev pub FeedsAll : Profile → Stop → (pieces : List (List ℕ)) → List FrameValue → Stop → Type 0
FeedsAll profile before [] frames after = (frames ≡ []) × (after ≡ before)
FeedsAll profile before (piece ∷ pieces) frames after =
    (first others : List FrameValue) × (between : Stop) × (frames ≡ first ++ others) × Feeds profile before piece first between × FeedsAll profile between pieces others after

-- the pieces of a stream from its first byte on
abbrev pub Splits : Profile → (pieces : List (List ℕ)) → List FrameValue → Stop → Type 0
Splits profile pieces frames stop = FeedsAll profile (Waiting false []) pieces frames stop
