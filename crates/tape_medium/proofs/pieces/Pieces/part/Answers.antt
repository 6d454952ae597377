use Rattle.std.proofs.Common.{arith, ◌∙◌, sym}
use Rattle.tape_medium.proofs.PieceLemmas.{lent-part, lent-bytes, home-within}
use Rattle.tape_medium.proofs.pieces.Pieces.part.Goals as goal

pub index-requires : goal.index-requires
index-requires c = omega (arith, home-within _ _ _ _ _ _ c.self.view_is c.requires.home c.requires.some, c.self.inside.pieces.ok.0)

pub part-requires-clause-low : goal.part-requires-clause-low
part-requires-clause-low c = (lent-part _ _ _ _ _ _ _ c.self.view_is c.self.invariant.1 c.requires.home c.requires.some c.index.ensures).low

pub part-requires-clause-high : goal.part-requires-clause-high
part-requires-clause-high c = (lent-part _ _ _ _ _ _ _ c.self.view_is c.self.invariant.1 c.requires.home c.requires.some c.index.ensures).high

pub returns : goal.returns
returns c =
    c.part.ensures
    ∙ sym (lent-bytes _ _ _ _ _ (lent-part _ _ _ _ _ _ _ c.self.view_is c.self.invariant.1 c.requires.home c.requires.some c.index.ensures))
