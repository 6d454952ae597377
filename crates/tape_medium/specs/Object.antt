use Rattle.std.specs.Prelude.{ℕ, List}

-- a logical object, as SSC-4 has it: a logical block of bytes, or a filemark
pub data Object : Type 0 where
  Block : List ℕ → Object
  Mark : Object
