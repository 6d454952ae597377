use Rattle.std.proofs.Common.{◌≡◌, ℕ, refl, ap, arith, List, [], ◌∷◌, ◌++◌, true, length-append, subst, ◌∙◌}
use Rattle.std.specs.Prelude.{length}
use Rattle.kept_unit.specs.Agreeing.{rises}
use Rattle.kept_unit.specs.Listing.{NotesValue}
use Rattle.lun_router.specs.Seats.{HandsOver, end_of}
use Rattle.lun_router.proofs.laws.settling_rows.Goals as goal

-- the numbers in front of 4
in_front : (g : List ℕ) → 2 ∷ 3 ∷ 4 ∷ [] ≡ g ++ 4 ∷ [] → g ≡ 2 ∷ 3 ∷ []
in_front [] e = absurd (let h : 3 ≡ 1 = ap length e in omega arith)
in_front (x ∷ []) e = absurd (let h : 3 ≡ 2 = ap length e in omega arith)
in_front (x ∷ y ∷ []) e = cc
in_front (x ∷ y ∷ z ∷ g) e = absurd (let h : 3 ≡ length (x ∷ y ∷ z ∷ (g ++ 4 ∷ [])) = ap length e in let k = length-append g (4 ∷ []) in omega (arith, h, k))

pub returns : goal.returns
returns c = record {
  own = refl;
  later = refl;
  unnumbered = refl;
  undrained = refl;
  no_unit = refl;
  moved = refl;
  half = refl;
  count = refl;
  nothing = refl;
  all = refl;
  at_its_unit = refl;
  at_another = refl;
  handed_over_there = refl;
  handed_over_elsewhere = refl;
  settles = record { listed = refl; numbers = (refl, refl, refl, refl, refl); amounts = refl; handed_over = refl };
  in_ranges = record { listed = refl; numbers = (refl, refl, refl, refl, refl); amounts = refl; handed_over = refl };
  number_lost = λ s. (let h : 2 ≡ 3 = ap length s.numbers.1 in omega arith);
  too_many = λ s. (let h : 0 ≡ 1 = ap length s.listed in omega arith);
  too_few = λ s. (let h : 2 ≡ 1 = ap length s.listed in omega arith);
  over = record { listed = refl; zero = record { gone = []; numbers = refl; rise = refl; last = refl }; one = record { gone = 2 ∷ 3 ∷ []; numbers = refl; rise = refl; last = refl }; two = record { gone = []; numbers = refl; rise = refl; last = refl }; three = record { gone = []; numbers = refl; rise = refl; last = refl }; four = record { gone = []; numbers = refl; rise = refl; last = refl } };
  one_over = record { listed = refl; zero = record { gone = []; numbers = refl; rise = refl; last = refl }; one = record { gone = 2 ∷ []; numbers = refl; rise = refl; last = refl }; two = record { gone = []; numbers = refl; rise = refl; last = refl }; three = record { gone = []; numbers = refl; rise = refl; last = refl }; four = record { gone = []; numbers = refl; rise = refl; last = refl } };
  none_over = record { listed = refl; zero = record { gone = []; numbers = refl; rise = refl; last = refl }; one = record { gone = []; numbers = refl; rise = refl; last = refl }; two = record { gone = []; numbers = refl; rise = refl; last = refl }; three = record { gone = []; numbers = refl; rise = refl; last = refl }; four = record { gone = []; numbers = refl; rise = refl; last = refl } };
  unknown = λ s. (let h : 0 ≡ 3 = s.one.last ∙ ap (end_of 0) (in_front s.one.gone s.one.numbers) in omega arith);
  below = λ s. (let up : rises 5 (2 ∷ 3 ∷ []) ≡ true = subst (λ (l : List ℕ). rises 5 l ≡ true) (in_front s.one.gone s.one.numbers) s.one.rise in absurd cc);
}
