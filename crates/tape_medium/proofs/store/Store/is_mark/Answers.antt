use Rattle.std.proofs.Common.{arith, ◌≡◌, take}
use Rattle.tape_medium.specs.Store.{ends_of, end_after}
use Rattle.tape_medium.proofs.PutLemmas.{within-places, below-places, is-mark-at}
use Rattle.tape_medium.proofs.store.Store.is_mark.Goals as goal

pub end_before-start-requires : goal.end_before-start-requires
end_before-start-requires c = rw c.deref.ensures.value (within-places c.self.inside.pieces _ _ _ c.self.view_is (omega arith))

pub index-requires : goal.index-requires
index-requires c = omega (arith, below-places c.self.inside.pieces _ _ _ c.self.view_is c.requires, c.self.inside.places.ok.0)

pub returns : goal.returns
returns c =
    let start : c.end_before-start.result ≡ end_after 0 (ends_of (take c.args.at c.self.inside.places.items)) = rw (← c.deref.ensures.value) c.end_before-start.ensures in
    is-mark-at c.self.inside.pieces _ _ _ _ _ c.self.view_is (below-places c.self.inside.pieces _ _ _ c.self.view_is c.requires) start c.index.ensures
