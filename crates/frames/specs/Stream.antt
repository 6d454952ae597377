-- A stream of frames: what was read of it, and where reading stopped.
use Rattle.std.specs.Prelude.{◌≡◌, ℕ, Bool, true, List, [], ◌∷◌, ◌++◌, drop}
use Rattle.scsi_cdb.specs.declared.profile.Profile.{Profile}
use Rattle.frames.specs.declared.fault.FrameFault.{FrameFault}
use Rattle.frames.specs.Frames.{FrameValue, Partial, Complete, Invalid, parsed_frame}

-- bytes that are no whole frame yet, after a LOGIN or before, or a fault for good
pub data Stop : Type 0 where
  Waiting : (logged : Bool) → (bytes : List ℕ) → Stop
  Broken : FrameFault → Stop

-- from such bytes these frames are read, and there it stops
pub data Reads (profile : Profile) : Bool → List ℕ → List FrameValue → Stop → Type 0 where
  partial : (logged : Bool) (bytes : List ℕ) → parsed_frame profile logged bytes ≡ Partial → Reads profile logged bytes [] (Waiting logged bytes)
  faulty : (logged : Bool) (bytes : List ℕ) (fault : FrameFault) → parsed_frame profile logged bytes ≡ Invalid fault → Reads profile logged bytes [] (Broken fault)
  frame : (logged : Bool) (bytes : List ℕ) (s : FrameValue) (count : ℕ) (others : List FrameValue) (stop : Stop) → parsed_frame profile logged bytes ≡ Complete s count
      → Reads profile true (drop count bytes) others stop → Reads profile logged bytes (s ∷ others) stop

-- one more piece of the stream: after a fault nothing is read
abbrev pub Feeds : Profile → Stop → List ℕ → List FrameValue → Stop → Type 0
Feeds profile (Waiting logged rest) piece frames stop = Reads profile logged (rest ++ piece) frames stop
Feeds profile (Broken fault) piece frames stop = (frames ≡ []) × (stop ≡ Broken fault)

-- these frames are the first of what is pending, and this is the rest
abbrev pub Takes : Profile → (logged : Bool) → (pending : List ℕ) → List FrameValue → (rest : List ℕ) → Type 0
Takes profile logged pending [] rest = rest ≡ pending
Takes profile logged pending (s ∷ frames) rest = (count : ℕ) × (parsed_frame profile logged pending ≡ Complete s count) × Takes profile true (drop count pending) frames rest
