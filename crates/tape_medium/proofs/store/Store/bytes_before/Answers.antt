use Rattle.std.proofs.Common.{◌∙◌}
use Rattle.tape_medium.proofs.PutLemmas.{within-places, bytes-before}
use Rattle.tape_medium.proofs.store.Store.bytes_before.Goals as goal

pub end_before-requires : goal.end_before-requires
end_before-requires c = rw c.deref.ensures.value (within-places c.self.inside.pieces _ _ _ c.self.view_is c.requires)

pub returns : goal.returns
returns c = c.end_before.ensures ∙ rw c.deref.ensures.value (bytes-before c.self.inside.pieces _ _ _ c.self.view_is c.self.invariant)
