use Rattle.std.proofs.Common.{◌≡◌, ◌+◌, take, suc, arith}
use Rattle.tape_medium.specs.Store.{home_after}
use Rattle.tape_medium.proofs.PutLemmas.{within-places, store-cut, shown-cut}
use Rattle.tape_medium.proofs.store.Store.truncate.Goals as goal

pub home_before-home-requires : goal.home_before-home-requires
home_before-home-requires c = rw c.deref.ensures.value (within-places c.self.inside.pieces _ _ _ c.self.view_is c.requires)

pub invariant_of-self : goal.invariant_of-self
invariant_of-self c =
    let home : c.home_before-home.result ≡ home_after 0 (take c.args.at c.self.inside.places.items) = rw (← c.deref.ensures.value) c.home_before-home.ensures in
    let next : c.home_before-home.result + 1 ≡ suc c.home_before-home.result = omega arith in
    rw (c.truncate.ensures.items, c.release.ensures, next) (store-cut c.self.inside.pieces c.self.inside.places.items c.args.at _ c.self.invariant home)

pub returns : goal.returns
returns c =
    let home : c.home_before-home.result ≡ home_after 0 (take c.args.at c.self.inside.places.items) = rw (← c.deref.ensures.value) c.home_before-home.ensures in
    let next : c.home_before-home.result + 1 ≡ suc c.home_before-home.result = omega arith in
    rw (c.truncate.ensures.items, c.release.ensures, next) (shown-cut c.self.inside.pieces c.self.inside.places.items c.args.at _ _ c.self.view_is c.self.invariant home)
