use Rattle.std.specs.Prelude.{ℕ, List}
use Rattle.tape_medium.specs.Object.{Object}

-- a tape: its logical objects from the beginning on, the position, which counts the objects before it, how many bytes of blocks
-- it takes, and how many of the first objects are unchanged since the tape was settled
pub record TapeView : Type 0 where
  pub objects : List Object
  pub position : ℕ
  pub capacity : ℕ
  pub unchanged : ℕ
