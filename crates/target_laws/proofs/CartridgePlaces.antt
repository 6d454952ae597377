-- The cartridges of units of which one takes the place of another.
use Rattle.std.proofs.Common.{◌≡◌, ℕ, zero, suc, List, [], ◌∷◌, ◌++◌, IsPermutation, Option, Some, refl, sym, ap, ◌∙◌, subst}
use Rattle.std.proofs.lemmas.List.Sorted.{IsPermutation-refl, IsPermutation-sym, IsPermutation-trans, IsPermutation-middle, IsPermutation-append_right}
use Rattle.std.specs.Prelude.{slice_get, slice_set}
use Rattle.logical_unit.specs.UnitView.{UnitView}
use Rattle.target_core.proofs.Places.{same_some}
use Rattle.target_laws.specs.Cartridges.{Cartridge, cartridges_of, cartridges}

pub equal : (xs ys : List Cartridge) → ys ≡ xs → IsPermutation xs ys
equal xs ys is = subst (IsPermutation xs) (sym is) (IsPermutation-refl xs)

-- AMONG UNITS, one takes the place of another
pub keeps : (us : List UnitView) (k : ℕ) (d e : UnitView) → slice_get us k ≡ Some d → cartridges_of e.device ≡ cartridges_of d.device → cartridges (slice_set us k e) ≡ cartridges us
keeps [] k d e there same = refl
keeps (z ∷ us) zero d e there same = ap (λ (cs : List Cartridge). cs ++ cartridges us) (same ∙ ap (λ (u : UnitView). cartridges_of u.device) (sym (same_some z d there)))
keeps (z ∷ us) (suc k) d e there same = ap (λ (cs : List Cartridge). cartridges_of z.device ++ cs) (keeps us k d e there same)

pub empties : (us : List UnitView) (k : ℕ) (d e : UnitView) (x : Cartridge) → slice_get us k ≡ Some d → cartridges_of d.device ≡ x ∷ [] → cartridges_of e.device ≡ [] → IsPermutation (cartridges us) (x ∷ cartridges (slice_set us k e))
empties [] k d e x there full empty = absurd cc
empties (z ∷ us) zero d e x there full empty =
    equal (cartridges (z ∷ us)) (x ∷ cartridges (e ∷ us))
    (ap (λ (cs : List Cartridge). x ∷ (cs ++ cartridges us)) empty
    ∙ sym (ap (λ (cs : List Cartridge). cs ++ cartridges us) (ap (λ (u : UnitView). cartridges_of u.device) (same_some z d there) ∙ full)))
empties (z ∷ us) (suc k) d e x there full empty =
    let first = cartridges_of z.device in
    let rest = cartridges (slice_set us k e) in
    IsPermutation-trans (first ++ cartridges us) (first ++ x ∷ rest) (x ∷ (first ++ rest))
    (IsPermutation-append_right first (cartridges us) (x ∷ rest) (empties us k d e x there full empty)) (IsPermutation-middle first x rest)

pub fills : (us : List UnitView) (k : ℕ) (d e : UnitView) (x : Cartridge) → slice_get us k ≡ Some d → cartridges_of d.device ≡ [] → cartridges_of e.device ≡ x ∷ [] → IsPermutation (x ∷ cartridges us) (cartridges (slice_set us k e))
fills [] k d e x there empty full = absurd cc
fills (z ∷ us) zero d e x there empty full =
    equal (x ∷ cartridges (z ∷ us)) (cartridges (e ∷ us))
    (ap (λ (cs : List Cartridge). cs ++ cartridges us) full
    ∙ sym (ap (λ (cs : List Cartridge). x ∷ (cs ++ cartridges us)) (ap (λ (u : UnitView). cartridges_of u.device) (same_some z d there) ∙ empty)))
fills (z ∷ us) (suc k) d e x there empty full =
    let first = cartridges_of z.device in
    let rest = cartridges (slice_set us k e) in
    IsPermutation-trans (x ∷ (first ++ cartridges us)) (first ++ x ∷ cartridges us) (first ++ rest)
    (IsPermutation-sym (first ++ x ∷ cartridges us) (x ∷ (first ++ cartridges us)) (IsPermutation-middle first x (cartridges us)))
    (IsPermutation-append_right first (x ∷ cartridges us) rest (fills us k d e x there empty full))
