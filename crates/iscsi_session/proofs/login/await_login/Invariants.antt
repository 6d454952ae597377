use Rattle.std.proofs.Common.{ℕ, List}
use Rattle.std.specs.Io.KnownBytes.{Appends}
use Rattle.iscsi_session.specs.LoggingIn.{LogsIn}
use Rattle.iscsi_session.proofs.login.await_login.Given as goal

abbrev pub invariant-reads : goal.invariant-reads
invariant-reads g l =
    LogsIn l.target l.fn.exchange l.exchange (g.R.Read.remaining l.fn.reader) (g.R.Read.remaining l.reader) l.read_buffer
    × ((told : List ℕ) × Appends (g.W.Write.contents l.fn.writer) (g.W.Write.contents l.writer) told)
