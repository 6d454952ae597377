use Rattle.std.proofs.Common.{◌≡◌, ◌<◌, ◌*◌, false, length}
use Rattle.std.specs.Io.KnownBytes.{Consumes}
use Rattle.frames.specs.Frames.{Partial, parsed_frame}
use Rattle.frames.specs.Limits.{frame_buffer_size, frame_size_limit}
use Rattle.session.specs.Login.{ReadsAtMost}
use Rattle.session.proofs.login.await_login.Given as goal

-- all that was read is pending, and is no frame yet
abbrev pub invariant-reads : goal.invariant-reads
invariant-reads g l =
    Consumes (g.R.Read.remaining l.fn.reader) (g.R.Read.remaining l.reader) l.read_buffer
    × (parsed_frame l.profile false l.read_buffer ≡ Partial)
    × (length l.read_buffer < frame_size_limit l.profile)
    × ReadsAtMost (l.turn * frame_buffer_size l.profile) (g.R.Read.remaining l.fn.reader) (g.R.Read.remaining l.reader)
