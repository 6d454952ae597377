use Rattle.std.proofs.Common.{◌≡◌, ℕ, ◌≤◌, List, [], ◌++◌, length, take, refl, sym, ◌∙◌, arith, length-append}
use Rattle.std.proofs.lemmas.List.{take-take, take-append-le, length-take, append-nil}
use Rattle.tape_medium.specs.Object.{Object}
use Rattle.tape_medium.specs.TapeView.{TapeView}
use Rattle.tape_medium.specs.Tape.{settled, behind, unchanged_behind}
use Rattle.tape_medium.specs.Changes.{Changes, nothing, moves, writes, erases, StayInFront, UnchangedStayInFront}

-- what is put behind a place leaves the first objects
front-put : (os more : List Object) (count at : ℕ) → count ≤ at → count ≤ length os → take count (take at os ++ more) ≡ take count os
front-put os more count at le within =
    take-append-le count (take at os) more (omega (arith, length-take at os)) ∙ take-take count at os le

-- there are as many objects as are unchanged
record Stays (before after : TapeView) : Type 0 where
  front : StayInFront before.unchanged before.objects after
  few : after.unchanged ≤ length after.objects

stays-put : (before u : TapeView) (more : List Object) → Stays before u → (take (unchanged_behind u) (behind u ++ more) ≡ take (unchanged_behind u) before.objects) × (unchanged_behind u ≤ length (behind u ++ more))
stays-put before u more so =
    let first : take (unchanged_behind u) (behind u ++ more) ≡ take (unchanged_behind u) u.objects = front-put u.objects more (unchanged_behind u) u.position (omega arith) (omega (arith, so.few)) in
    let shorter : take (unchanged_behind u) (take u.unchanged u.objects) ≡ take (unchanged_behind u) u.objects = take-take (unchanged_behind u) u.unchanged u.objects (omega arith) in
    let then : take (unchanged_behind u) (take u.unchanged before.objects) ≡ take (unchanged_behind u) before.objects = take-take (unchanged_behind u) u.unchanged before.objects (omega arith) in
    let same : take u.unchanged u.objects ≡ take u.unchanged before.objects = so.front.same in
    (first ∙ sym shorter ∙ rw same then, omega (arith, so.few, length-append (behind u) more, length-take u.position u.objects))

stays-changes : (before after : TapeView) → before.unchanged ≤ length before.objects → Changes before after → Stays before after
stays-changes before after few (nothing t) = record { front = record { within = omega arith; same = refl }; few = few }
stays-changes before after few (moves t u position changes) =
    let so : Stays before u = stays-changes before u few changes in
    record { front = record { within = so.front.within; same = so.front.same }; few = so.few }
stays-changes before after few (writes t u more changes) =
    let so : Stays before u = stays-changes before u few changes in
    let put = stays-put before u more so in
    record { front = record { within = omega (arith, so.front.within); same = put.0 }; few = put.1 }
stays-changes before after few (erases t u changes) =
    let so : Stays before u = stays-changes before u few changes in
    let put = stays-put before u [] so in
    let none : behind u ++ [] ≡ behind u = append-nil (behind u) in
    record { front = record { within = omega (arith, so.front.within); same = rw none at put.0 }; few = rw none at put.1 }

pub unchanged-stay : UnchangedStayInFront
unchanged-stay t after count few changes = (stays-changes (settled t count) after few changes).front
