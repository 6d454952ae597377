-- How much data an answer has at the most.
use Rattle.std.specs.Prelude.{ℕ}
use Rattle.tape_medium.specs.Limits.{block_limit}

-- as many bytes as one command reads in any profile: one logical block at the most, or as many fixed ones as are no longer than that (profile)
abbrev pub data_limit : ℕ
data_limit = block_limit
