-- A new file holds nothing.
use Rattle.std.proofs.Common.{◌≡◌, ℕ, ◌≤◌, List, [], ◌∷◌, Option, Some, None, refl, sym, subst, arith}
use Rattle.std.specs.Prelude.{IfSome}
use Rattle.std.proofs.lemmas.List.Elements.{All-cons, All-nil}
use Rattle.tape_image.specs.Reading.{Waiting}
use Rattle.tape_flush.specs.declared.known.Known.{Known}
use Rattle.tape_flush.specs.Stores.{FileValue, file_value, IsNewFile}
use Rattle.tape_flush.specs.Careful.{IsKnown, trusted_to}
use Rattle.tape_flush.specs.Saved.{Holds}
use Rattle.tape_flush.proofs.Holding.{holds_nothing}

new_known : IsKnown (trusted_to 0) (file_value [] 0 [] (0 ∷ []))
new_known = record {
  noted_most = omega arith;
  in_order = omega arith;
  synced = omega arith;
  same = refl;
  sound = omega arith;
  within = omega arith;
  end = tt;
  noted = All-cons (λ size. (0 ≤ size) × (size ≤ 0)) 0 [] (omega arith, omega arith) (All-nil (λ size. (0 ≤ size) × (size ≤ 0)));
}

new_holds : Holds (file_value [] 0 [] (0 ∷ [])) (trusted_to 0) [] [] []
new_holds = record {
  is_known = new_known;
  front = [];
  behind = [];
  bytes = refl;
  objects_are = refl;
  others_begin = ([], Waiting 0 [], [], holds_nothing 0, refl);
}

pub new_file_holds : (file : Option FileValue) (known : Known) (ends : List ℕ) → IsNewFile file → known ≡ trusted_to 0 → ends ≡ []
    → IfSome file (λ f. Holds f known ends [] [])
new_file_holds None known ends is same none = tt
new_file_holds (Some file) known ends is same none =
    subst (λ (e : List ℕ). Holds file known e [] []) (sym none)
    (subst (λ (k : Known). Holds file k [] [] []) (sym same)
    (subst (λ (f : FileValue). Holds f (trusted_to 0) [] [] []) (sym is) new_holds))
