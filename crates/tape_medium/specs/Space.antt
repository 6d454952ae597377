use Rattle.std.specs.Prelude.{ℕ, ◌+◌, ◌-◌, zero, suc, ℤ, pos, negsuc, List, [], ◌∷◌, length, reverse}
use Rattle.tape_medium.specs.Object.{Object, Block, Mark}
use Rattle.tape_medium.specs.TapeView.{TapeView}
use Rattle.tape_medium.specs.Tape.{behind, ahead, moved_to}
use Rattle.tape_medium.specs.declared.space.Stop.{Stop}
use Rattle.tape_medium.specs.declared.space.Stop.TheVariants.{Done, AtMark, AtEnd, AtStart}
use Rattle.tape_medium.specs.declared.space.SpaceCode.{SpaceCode}
use Rattle.tape_medium.specs.declared.space.SpaceCode.TheVariants.{Blocks, Marks, EndOfData}
use Rattle.tape_medium.specs.declared.space.SpaceEnd.{SpaceEnd}

-- SPACING (SSC-4, "SPACE(6) command"), over the objects that lie in the way, the nearest first:
-- how many of them count, how many are passed, and why it stops
pub record Way : Type 0 where
  pub counted : ℕ
  pub over : ℕ
  pub stop : Stop

-- one object more is passed, and counts or doesn't
abbrev pub one_counted : Way → Way
one_counted w = record { counted = w.counted + 1; over = w.over + 1; stop = w.stop }

abbrev pub one_passed : Way → Way
one_passed w = record { counted = w.counted; over = w.over + 1; stop = w.stop }

-- over so many blocks; a filemark that is met is passed and ends it.
-- `edge` is what an end of the tape is called in this direction.
abbrev pub over_blocks : Stop → List Object → ℕ → Way
over_blocks edge os zero = record { counted = 0; over = 0; stop = Done }
over_blocks edge [] (suc n) = record { counted = 0; over = 0; stop = edge }
over_blocks edge (Mark ∷ os) (suc n) = record { counted = 0; over = 1; stop = AtMark }
over_blocks edge (Block b ∷ os) (suc n) = one_counted (over_blocks edge os n)

-- over so many filemarks, with all that lies between
abbrev pub over_marks : Stop → List Object → ℕ → Way
over_marks edge os zero = record { counted = 0; over = 0; stop = Done }
over_marks edge [] (suc n) = record { counted = 0; over = 0; stop = edge }
over_marks edge (Mark ∷ os) (suc n) = one_counted (over_marks edge os n)
over_marks edge (Block b ∷ os) (suc n) = one_passed (over_marks edge os (suc n))

abbrev pub way : SpaceCode → Stop → List Object → ℕ → Way
way Blocks edge os n = over_blocks edge os n
way Marks edge os n = over_marks edge os n
way EndOfData edge os n = record { counted = 0; over = length os; stop = Done }

abbrev pub end_of : Way → SpaceEnd
end_of w = record { moved = w.counted; stop = w.stop }

abbrev pub forward : SpaceCode → TapeView → ℕ → TapeView × SpaceEnd
forward code t n = let w = way code AtEnd (ahead t) n in (moved_to t (t.position + w.over), end_of w)

abbrev pub backward : SpaceCode → TapeView → ℕ → TapeView × SpaceEnd
backward code t n = let w = way code AtStart (reverse (behind t)) n in (moved_to t (t.position - w.over), end_of w)

-- a negative count goes back; to the end of data the count is ignored
abbrev pub spaced : SpaceCode → TapeView → ℤ → TapeView × SpaceEnd
spaced EndOfData t count = forward EndOfData t 0
spaced code t (pos n) = forward code t n
spaced code t (negsuc n) = backward code t (n + 1)
