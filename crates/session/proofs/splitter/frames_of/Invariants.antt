use Rattle.std.proofs.Common.{◌≡◌, ◌-◌, ◌≤◌, ◌++◌, length, drop, List}
use Rattle.frames.specs.Frames.{FrameValue}
use Rattle.frames.specs.Stream.{Reads, Stop}
use Rattle.session.specs.Splitting.{values_of_frames}
use Rattle.session.proofs.splitter.frames_of.Given as goal

abbrev pub invariant-frames : goal.invariant-frames
invariant-frames l =
    record {
      read : (others : List FrameValue) (stop : Stop) → Reads l.profile l.logged l.rest others stop → Reads l.profile l.logged_in l.bytes (values_of_frames l.frames.items ++ others) stop;
      within : length l.rest ≤ length l.bytes;
      rest : l.rest ≡ drop (length l.bytes - length l.rest) l.bytes;
    }

abbrev pub decreases-frames : goal.decreases-frames
decreases-frames l = length l.rest
