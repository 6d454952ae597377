-- What becomes of a tape by any calls but the one that settles it.
use Rattle.std.specs.Prelude.{◌≡◌, ℕ, ◌≤◌, List, length, take}
use Rattle.tape_medium.specs.Object.{Object}
use Rattle.tape_medium.specs.TapeView.{TapeView}
use Rattle.tape_medium.specs.Tape.{moved_to, written, erased, settled}

pub data Changes : TapeView → TapeView → Type 0 where
  nothing : (t : TapeView) → Changes t t
  moves : (t u : TapeView) (position : ℕ) → Changes t u → Changes t (moved_to u position)
  writes : (t u : TapeView) (more : List Object) → Changes t u → Changes t (written u more)
  erases : (t u : TapeView) → Changes t u → Changes t (erased u)

-- the objects that are unchanged are the first of those that there were then, and at most so many
pub record StayInFront (count : ℕ) (objects : List Object) (after : TapeView) : Type 0 where
  pub within : after.unchanged ≤ count
  pub same : take after.unchanged after.objects ≡ take after.unchanged objects

abbrev pub UnchangedStayInFront : Type 0
UnchangedStayInFront = (t after : TapeView) (count : ℕ) → count ≤ length t.objects → Changes (settled t count) after → StayInFront count t.objects after
