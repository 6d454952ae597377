use Rattle.std.proofs.Common.{rules}
use Rattle.logical_unit.proofs.moves.load.Goals as goal

pub returns-then-not-takes-clause-same : goal.returns-then-not-takes-clause-same
returns-then-not-takes-clause-same g c = search rules fits 100

pub returns-then-not-reserve-clause-same : goal.returns-then-not-reserve-clause-same
returns-then-not-reserve-clause-same g c = search rules fits 100
