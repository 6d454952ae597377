-- The longest part of an image.
use Rattle.std.specs.Prelude.{ℕ, ◌+◌}
use Rattle.tape_medium.specs.Limits.{block_limit}

-- the most bytes of a part: the longest block between its lengths, of four bytes each
abbrev pub part_limit : ℕ
part_limit = 8 + block_limit
