-- A test of entries by what they say.
use Rattle.std.proofs.Common.{◌≡◌, ◌||◌, Bool, List, [], ◌∷◌, refl, ap}
use Rattle.std.specs.List.{list_any}
use Rattle.std.specs.Prelude.{map}

pub any_of_values : {A B : Type 0} (test : B → Bool) (value : A → B) (xs : List A) → list_any test (map value xs) ≡ list_any (λ (x : A). test (value x)) xs
any_of_values test value [] = refl
any_of_values test value (x ∷ xs) = ap (λ (b : Bool). test (value x) || b) (any_of_values test value xs)
