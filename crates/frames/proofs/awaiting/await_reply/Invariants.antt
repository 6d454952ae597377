use Rattle.std.proofs.Common.{◌≡◌}
use Rattle.std.specs.Io.KnownBytes.{Keeps}
use Rattle.read_buffer.specs.Reading.{Added}
use Rattle.frames.specs.ParsedReplies.{Partial, parsed_reply}
use Rattle.frames.proofs.awaiting.await_reply.Given as goal

-- all that was read is pending, and nothing was read where a reply was pending
abbrev pub invariant-reads : goal.invariant-reads
invariant-reads g l = record {
  read : Added l.fn.read_buffer l.read_buffer (g.R.Read.remaining l.fn.reader) (g.R.Read.remaining l.reader);
  ready : (parsed_reply l.fn.profile l.fn.read_buffer ≡ Partial → ⊥) → (l.read_buffer ≡ l.fn.read_buffer) × Keeps (g.R.Read.remaining l.fn.reader) (g.R.Read.remaining l.reader);
}

abbrev pub decreases-reads : goal.decreases-reads
decreases-reads g l = l.turns
