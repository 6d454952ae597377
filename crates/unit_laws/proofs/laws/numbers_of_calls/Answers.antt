use Rattle.std.proofs.Common.{◌≡◌, ℕ, refl, arith}
use Rattle.std.proofs.lemmas.Bool.Decides.{nat_tests}
use Rattle.logical_unit.specs.Answers.{own_number, count_at}
use Rattle.unit_laws.proofs.laws.numbers_of_calls.Goals as goal

only_own : (lun n k : ℕ) → (k ≡ lun → ⊥) → count_at k (own_number lun n) ≡ 0
only_own lun n k other = grind (arith, nat_tests)

pub returns-clause-numbers : goal.returns-clause-numbers
returns-clause-numbers c = record {
  own = refl;
  none = refl;
  one = refl;
  other = refl;
  number = refl;
  several = refl;
  only = only_own 1 7;
  not_only = λ h. (let one : 1 ≡ 0 = h 2 (λ e. omega arith) in omega arith);
}
