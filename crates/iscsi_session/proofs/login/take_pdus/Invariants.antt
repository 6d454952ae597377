use Rattle.std.proofs.Common.{length}
use Rattle.iscsi_session.specs.LoggingIn.{Exchanges}
use Rattle.iscsi_session.proofs.login.take_pdus.Given as goal

abbrev pub invariant-pdus : goal.invariant-pdus
invariant-pdus l = Exchanges l.target l.fn.exchange l.exchange l.fn.read_buffer l.read_buffer

abbrev pub decreases-pdus : goal.decreases-pdus
decreases-pdus l = length l.read_buffer
