-- Ranges that a unit takes over one by one: they rise, and the share counts them no more.
use Rattle.std.proofs.Common.{◌≡◌, ℕ, zero, suc, ◌+◌, ◌-◌, ◌≤◌, ◌<◌, List, [], ◌∷◌, ◌++◌, length, Bool, true, false, Option, Some, None, refl, sym, ap, ◌∙◌, arith, append-nil, length-append, take, drop, take-append-drop, get_or, add-one}
use Rattle.std.specs.Prelude.{if◌then◌else◌, nat_lt}
use Rattle.std.proofs.Math.Seq.{take-suc}
use Rattle.std.proofs.lemmas.Bool.Decides.{nat_tests}
use Rattle.std.proofs.lemmas.Grind.{flat_map-append}
use Rattle.settled_numbers.specs.declared.number_range.NumberRange.{NumberRange}
use Rattle.settled_numbers.specs.Numbers.{size}
use Rattle.kept_unit.specs.Ranges.{numbers_between, numbers_in_ranges, rise_to}
use Rattle.kept_unit.proofs.Spans.{length_span}

-- how many numbers a range has
between_length : (r : NumberRange) → length (numbers_between r) ≡ size r
between_length r = let spanned = length_span r.first (r.last - r.first) in omega (arith, spanned)

rise_step : (b : Bool) (low last : ℕ) (x r : NumberRange) (xs : List NumberRange) → b ≡ nat_lt low x.first
    → (rise_to x.last xs ≡ Some last → rise_to x.last (xs ++ r ∷ []) ≡ Some r.last) → (if b then rise_to x.last xs else None) ≡ Some last
    → (if b then rise_to x.last (xs ++ r ∷ []) else None) ≡ Some r.last
rise_step true low last x r xs is later e = later e
rise_step false low last x r xs is later e = absurd (cc)

-- a range above others rises with them
rise_more : (xs : List NumberRange) (low last : ℕ) (r : NumberRange) → rise_to low xs ≡ Some last → last < r.first → rise_to low (xs ++ r ∷ []) ≡ Some r.last
rise_more [] low last r e up =
    let is : low ≡ last = cc in
    let above : nat_lt low r.first ≡ true = grind (arith, nat_tests) in
    ap (λ (b : Bool). if b then Some r.last else None) above
rise_more (x ∷ xs) low last r e up = rise_step (nat_lt low x.first) low last x r xs refl (λ h. rise_more xs x.last last r h up) e

taken : (rs : List NumberRange) (i : ℕ) (r : NumberRange) → i < length rs → r ≡ get_or rs i r → take (i + 1) rs ≡ take i rs ++ r ∷ []
taken rs i r lt is = rw add-one (take-suc rs i r lt ∙ ap (λ y. take i rs ++ y ∷ []) (sym is))

counted : (rs : List NumberRange) (r : NumberRange) → length (numbers_in_ranges (rs ++ r ∷ [])) ≡ length (numbers_in_ranges rs) + size r
counted rs r =
    ap length (flat_map-append numbers_between rs (r ∷ []) ∙ ap (λ ys. numbers_in_ranges rs ++ ys) (append-nil (numbers_between r)))
    ∙ length-append (numbers_in_ranges rs) (numbers_between r)
    ∙ ap (λ (k : ℕ). length (numbers_in_ranges rs) + k) (between_length r)

pub counted_more : (rs : List NumberRange) (i : ℕ) (r : NumberRange) → i < length rs → r ≡ get_or rs i r
    → length (numbers_in_ranges (take (i + 1) rs)) ≡ length (numbers_in_ranges (take i rs)) + size r
counted_more rs i r lt is = ap (λ (l : List NumberRange). length (numbers_in_ranges l)) (taken rs i r lt is) ∙ counted (take i rs) r

pub rises_more : (rs : List NumberRange) (i low last : ℕ) (r : NumberRange) → i < length rs → r ≡ get_or rs i r → rise_to low (take i rs) ≡ Some last → last < r.first
    → rise_to low (take (i + 1) rs) ≡ Some r.last
rises_more rs i low last r lt is e up = ap (rise_to low) (taken rs i r lt is) ∙ rise_more (take i rs) low last r e up

-- the first ranges have no more numbers than all
pub first_few : (rs : List NumberRange) (n : ℕ) → length (numbers_in_ranges (take n rs)) ≤ length (numbers_in_ranges rs)
first_few rs n =
    let all = sym (length-append (numbers_in_ranges (take n rs)) (numbers_in_ranges (drop n rs)))
    ∙ ap length (sym (flat_map-append numbers_between (take n rs) (drop n rs)) ∙ ap numbers_in_ranges (take-append-drop n rs)) in
    omega (arith, all)
