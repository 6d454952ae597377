use Rattle.std.proofs.Common.{arith}
use Rattle.tape_medium.proofs.PieceLemmas.{laid-first}
use Rattle.tape_medium.proofs.pieces.Pieces.release.Goals as goal

pub invariant_of-self : goal.invariant_of-self
invariant_of-self c = (
  omega (arith, c.self.invariant.0, c.truncate.ensures.len),
  laid-first c.self.inside.pieces.items c.truncate.new.self.items _ _ c.self.invariant.1 (omega arith) c.truncate.ensures.items,
)
