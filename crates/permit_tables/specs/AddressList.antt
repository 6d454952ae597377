-- What a contract sees of the SAS addresses that a parameter list names.
use Rattle.std.specs.Prelude.{ℕ, List}

-- the addresses, in order
pub record AddressList : Type 0 where
  pub items : List ℕ
