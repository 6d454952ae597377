-- The pieces of a list, each of the same size.
use Rattle.std.specs.Prelude.{ℕ, zero, suc, ◌/◌, List, [], ◌++◌, length, take, drop}

-- the words of so many pieces, one after another
abbrev pub pieces : (List ℕ → List ℕ) → (size count : ℕ) → List ℕ → List ℕ
pieces words size zero list = []
pieces words size (suc count) list = words (take size list) ++ pieces words size count (drop size list)

-- the words of each piece that is whole
abbrev pub whole_pieces : (List ℕ → List ℕ) → (size : ℕ) → List ℕ → List ℕ
whole_pieces words size list = pieces words size (length list / size) list

-- what stands behind a header of 8 bytes, as far as it goes by the header and is there
abbrev pub behind_header : (told : ℕ) → List ℕ → List ℕ
behind_header told bytes = take told (drop 8 bytes)
