use Rattle.std.proofs.Common.{◌≡◌, take, refl}
use Rattle.tape_medium.specs.Store.{home_after}
use Rattle.tape_medium.proofs.PutLemmas.{within-places, lies-before, block-put}
use Rattle.tape_medium.proofs.store.Store.put_block.Goals as goal

pub home_before-home-requires : goal.home_before-home-requires
home_before-home-requires c = rw c.deref.ensures.value (within-places c.self.inside.pieces _ _ _ c.self.view_is c.requires.within)

pub put-requires : goal.put-requires
put-requires c =
    let home : c.home_before-home.result ≡ home_after 0 (take c.args.at c.self.inside.places.items) = rw (← c.deref.ensures.value) c.home_before-home.ensures in
    record { home = lies-before c.self.inside.pieces _ _ _ _ _ c.self.view_is c.self.invariant c.bytes_before-start.ensures home }

pub invariant_of-self-2 : goal.invariant_of-self-2
invariant_of-self-2 c =
    let home : c.home_before-home.result ≡ home_after 0 (take c.args.at c.self.inside.places.items) = rw (← c.deref.ensures.value) c.home_before-home.ensures in
    rw (c.put_place.ensures, c.reserve_places.ensures.items) (block-put c.self.inside.pieces _ _ _ _ _ _ _ _ _ c.self.view_is c.self.invariant c.bytes_before-start.ensures home c.in_ok-home.ensures.ok c.requires.some refl).0

pub returns-clause-ok : goal.returns-clause-ok
returns-clause-ok c =
    let home : c.home_before-home.result ≡ home_after 0 (take c.args.at c.self.inside.places.items) = rw (← c.deref.ensures.value) c.home_before-home.ensures in
    rw (c.put_place.ensures, c.reserve_places.ensures.items) (block-put c.self.inside.pieces _ _ _ _ _ _ _ _ _ c.self.view_is c.self.invariant c.bytes_before-start.ensures home c.in_ok-home.ensures.ok c.requires.some refl).1
