use Rattle.std.proofs.Common.{◌≡◌, ◌≤◌, length, take, arith}
use Rattle.std.proofs.lemmas.Grind.{common_steps}
use Rattle.tape_medium.specs.Store.{home_after}
use Rattle.tape_medium.proofs.PutLemmas.{within-places, marks-put}
use Rattle.tape_medium.proofs.store.Store.put_marks.Goals as goal

pub home_before-home-requires : goal.home_before-home-requires
home_before-home-requires c = rw c.deref.ensures.value (within-places c.self.inside.pieces _ _ _ c.self.view_is c.requires.within)

pub put_mark_places-requires-clause-within : goal.put_mark_places-requires-clause-within
put_mark_places-requires-clause-within c =
    let within : c.args.at ≤ length c.self.inside.places.items = within-places c.self.inside.pieces _ _ _ c.self.view_is c.requires.within in
    grind (arith, common_steps)

pub invariant_of-self-2 : goal.invariant_of-self-2
invariant_of-self-2 c =
    let home : c.home_before-home.result ≡ home_after 0 (take c.args.at c.self.inside.places.items) = rw (← c.deref.ensures.value) c.home_before-home.ensures in
    rw (c.put_mark_places.ensures, c.reserve_places.ensures.items) (marks-put c.self.inside.pieces _ _ _ _ _ c.self.view_is c.self.invariant c.bytes_before-end.ensures home).0

pub returns-clause-ok : goal.returns-clause-ok
returns-clause-ok c =
    let home : c.home_before-home.result ≡ home_after 0 (take c.args.at c.self.inside.places.items) = rw (← c.deref.ensures.value) c.home_before-home.ensures in
    rw (c.put_mark_places.ensures, c.reserve_places.ensures.items) (marks-put c.self.inside.pieces _ _ _ _ _ c.self.view_is c.self.invariant c.bytes_before-end.ensures home).1
