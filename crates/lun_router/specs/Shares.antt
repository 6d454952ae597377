-- A caller's share of each unit's ledger, and what a call adds to it.
use Rattle.std.specs.Prelude.{◌≡◌, ℕ, ◌+◌, List}
use Rattle.logical_unit.specs.Answers.{count_at}

-- a seat's share of each unit's ledger
pub record Amounts : Type 0 where
  pub zero : ℕ
  pub one : ℕ
  pub two : ℕ
  pub three : ℕ
  pub four : ℕ

-- shares that have counted nothing
abbrev pub nothing : Amounts
nothing = record { zero = 0; one = 0; two = 0; three = 0; four = 0 }

-- each share rises by one for each number at its unit, and no other does
abbrev pub Rise : Amounts → (numbers : List (ℕ × ℕ)) → Amounts → Type 0
Rise a ns b =
    (b.zero ≡ a.zero + count_at 0 ns) × (b.one ≡ a.one + count_at 1 ns) × (b.two ≡ a.two + count_at 2 ns) × (b.three ≡ a.three + count_at 3 ns) × (b.four ≡ a.four + count_at 4 ns)
