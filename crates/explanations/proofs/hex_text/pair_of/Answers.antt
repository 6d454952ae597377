use Rattle.std.proofs.Common.{arith}
use Rattle.explanations.proofs.HexLines.{digits_are}
use Rattle.explanations.proofs.hex_text.pair_of.Goals as goal

pub returns-clause-first : goal.returns-clause-first
returns-clause-first c = rw c.from.ensures (digits_are c.args.byte (omega arith)).0

pub returns-clause-second : goal.returns-clause-second
returns-clause-second c = rw c.from.ensures (digits_are c.args.byte (omega arith)).1
