use Rattle.std.proofs.lemmas.Grind.{common_steps}
use Rattle.std.proofs.Common.{arith}
use Rattle.tape_medium.proofs.PieceLemmas.{begun-there}
use Rattle.tape_medium.proofs.pieces.begin_at.Goals as goal

pub returns-then-has_room-clause-ok : goal.returns-then-has_room-clause-ok
returns-then-has_room-clause-ok c =
    begun-there _ _ _ _ c.index_mut-piece.result.now _ _ (omega (arith, c.args.pieces.now.ok.0)) c.begin.ensures c.put.ensures

pub returns-clause-ok : goal.returns-clause-ok
returns-clause-ok c = grind (arith, common_steps)
