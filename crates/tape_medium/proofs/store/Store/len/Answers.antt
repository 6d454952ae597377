use Rattle.std.proofs.Common.{arith, ◌≡◌, length}
use Rattle.tape_medium.specs.Pieces.{contents}
use Rattle.tape_medium.specs.Store.{objects_in, ends_of}
use Rattle.tape_medium.proofs.StoreLemmas.{length-objects_in}
use Rattle.tape_medium.proofs.PlaceLemmas.{length-ends_of}
use Rattle.tape_medium.proofs.store.Store.len.Goals as goal

pub returns : goal.returns
returns c =
    let count : length (objects_in (contents c.self.inside.pieces) 0 (ends_of c.self.inside.places.items)) ≡ length (ends_of c.self.inside.places.items) = length-objects_in _ _ _ in
    let places : length (ends_of c.self.inside.places.items) ≡ length c.self.inside.places.items = length-ends_of _ in
    rw (← c.self.view_is) (grind (arith, count, places))
