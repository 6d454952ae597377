-- Images, byte by byte.
use Rattle.std.specs.Prelude.{ℕ, List, [], ◌∷◌}
use Rattle.tape_medium.specs.Object.{Block, Mark}
use Rattle.tape_image.specs.Reading.{Placed}

-- a block of two bytes, "hi"
abbrev pub even : List ℕ
even = 2 ∷ 0 ∷ 0 ∷ 0 ∷ 0x68 ∷ 0x69 ∷ 2 ∷ 0 ∷ 0 ∷ 0 ∷ []

-- a block of three, "odd", and its pad
abbrev pub odd : List ℕ
odd = 3 ∷ 0 ∷ 0 ∷ 0 ∷ 0x6F ∷ 0x64 ∷ 0x64 ∷ 0 ∷ 3 ∷ 0 ∷ 0 ∷ 0 ∷ []

abbrev pub mark : List ℕ
mark = 0 ∷ 0 ∷ 0 ∷ 0 ∷ []

abbrev pub gap : List ℕ
gap = 0xFE ∷ 0xFF ∷ 0xFF ∷ 0xFF ∷ []

abbrev pub end : List ℕ
end = 0xFF ∷ 0xFF ∷ 0xFF ∷ 0xFF ∷ []

-- the objects of the first of these at its offset, and behind an erase gap
abbrev pub hi : Placed
hi = record { offset = 0; object = Block (0x68 ∷ 0x69 ∷ []) }

abbrev pub at_4 : Placed
at_4 = record { offset = 4; object = Block (0x68 ∷ 0x69 ∷ []) }

-- those of the first, a filemark and the second
abbrev pub three : List Placed
three = hi ∷ record { offset = 10; object = Mark } ∷ record { offset = 14; object = Block (0x6F ∷ 0x64 ∷ 0x64 ∷ []) } ∷ []
