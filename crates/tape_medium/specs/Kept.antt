use Rattle.std.specs.Prelude.{ℕ, ◌≤◌, List, length}
use Rattle.std.specs.List.{All}
use Rattle.tape_medium.specs.Limits.{block_limit, capacity_limit, object_limit}
use Rattle.tape_medium.specs.Object.{Object, Block, Mark}
use Rattle.tape_medium.specs.Tape.{bytes_in}

-- what a tape keeps between its calls
pub record IsTape (objects : List Object) (position capacity : ℕ) : Type 0 where
  pub within : position ≤ length objects
  pub fits : bytes_in objects ≤ capacity
  pub few : length objects ≤ object_limit
  pub small : capacity ≤ capacity_limit

-- a logical block has 1 to `block_limit` bytes
abbrev pub HasLength : Object → Type 0
HasLength (Block bytes) = (1 ≤ length bytes) × (length bytes ≤ block_limit)
HasLength Mark = Unit {0}

abbrev pub HaveLengths : List Object → Type 0
HaveLengths objects = All HasLength objects
