-- What is read of a reader.
use Rattle.std.specs.Prelude.{ℕ, ◌+◌, ◌*◌, ◌≤◌, List, length, Option}
use Rattle.std.specs.Io.KnownBytes.{Consumes, IsAtEnd}

-- a reader was read to its end, by at most so many reads of at most 65,536 bytes, the last of them of none
pub record IsReadWhole (turns : ℕ) (old new : Option (List ℕ)) (input : List ℕ) : Type 0 where
  pub consumed : Consumes old new input
  pub ended : IsAtEnd new
  pub bounded : length input + 65536 ≤ 65536 * turns
