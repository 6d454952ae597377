-- New ledgers of all units.
use Rattle.std.specs.Prelude.{◌≡◌, ℕ}
use Rattle.lun_router.specs.declared.locking.Blanks.{Blanks}

-- these have the names by logical unit number, and so many parts each
pub record AreBlanks (names : ℕ → ℕ) (all_parts : ℕ) (b : Blanks) : Type 0 where
  pub zero : (b.zero.name ≡ names 0) × (b.zero.parts ≡ all_parts)
  pub one : (b.one.name ≡ names 1) × (b.one.parts ≡ all_parts)
  pub two : (b.two.name ≡ names 2) × (b.two.parts ≡ all_parts)
  pub three : (b.three.name ≡ names 3) × (b.three.parts ≡ all_parts)
  pub four : (b.four.name ≡ names 4) × (b.four.parts ≡ all_parts)
