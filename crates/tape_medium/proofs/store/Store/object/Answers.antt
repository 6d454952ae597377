use Rattle.std.proofs.Common.{arith, ◌≡◌, take}
use Rattle.tape_medium.specs.Store.{ends_of, end_after}
use Rattle.tape_medium.proofs.PutLemmas.{within-places, below-places, mark-at, block-at, order-at, lies-at}
use Rattle.tape_medium.proofs.store.Store.object.Goals as goal

pub end_before-start-requires : goal.end_before-start-requires
end_before-start-requires c = rw c.deref.ensures.value (within-places c.self.inside.pieces _ _ _ c.self.view_is (omega arith))

pub index-place-requires : goal.index-place-requires
index-place-requires c = omega (arith, below-places c.self.inside.pieces _ _ _ c.self.view_is c.requires, c.self.inside.places.ok.0)

pub returns-then-place-start : goal.returns-then-place-start
returns-then-place-start c =
    let start : c.end_before-start.result ≡ end_after 0 (ends_of (take c.args.at c.self.inside.places.items)) = rw (← c.deref.ensures.value) c.end_before-start.ensures in
    mark-at c.self.inside.pieces _ _ _ _ _ c.self.view_is (below-places c.self.inside.pieces _ _ _ c.self.view_is c.requires) start c.index-place.ensures c.if-place-start.true

pub part-requires-clause-some : goal.part-requires-clause-some
part-requires-clause-some c =
    let start : c.end_before-start.result ≡ end_after 0 (ends_of (take c.args.at c.self.inside.places.items)) = rw (← c.deref.ensures.value) c.end_before-start.ensures in
    let order = order-at c.self.inside.pieces _ _ _ _ c.self.invariant (below-places c.self.inside.pieces _ _ _ c.self.view_is c.requires) start c.index-place.ensures in
    omega (arith, c.if-place-start.false)

pub part-requires-clause-home : goal.part-requires-clause-home
part-requires-clause-home c =
    let start : c.end_before-start.result ≡ end_after 0 (ends_of (take c.args.at c.self.inside.places.items)) = rw (← c.deref.ensures.value) c.end_before-start.ensures in
    lies-at c.self.inside.pieces _ _ _ _ c.self.invariant (below-places c.self.inside.pieces _ _ _ c.self.view_is c.requires) start c.index-place.ensures

pub returns : goal.returns
returns c =
    let start : c.end_before-start.result ≡ end_after 0 (ends_of (take c.args.at c.self.inside.places.items)) = rw (← c.deref.ensures.value) c.end_before-start.ensures in
    rw c.part.ensures (block-at c.self.inside.pieces _ _ _ _ _ c.self.view_is (below-places c.self.inside.pieces _ _ _ c.self.view_is c.requires) start c.index-place.ensures c.if-place-start.false)
