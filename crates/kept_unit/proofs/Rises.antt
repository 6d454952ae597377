-- Numbers that rise, range by range.
use Rattle.std.proofs.Common.{◌≡◌, ℕ, zero, suc, ◌+◌, ◌-◌, ◌≤◌, List, [], ◌∷◌, ◌++◌, Bool, true, false, ◌&&◌, Option, Some, None, refl, sym, ap, ◌∙◌, arith, append_assoc, append-nil}
use Rattle.std.specs.Prelude.{if◌then◌else◌, nat_lt}
use Rattle.std.proofs.lemmas.Bool.Decides.{nat_tests}
use Rattle.settled_numbers.specs.declared.number_range.NumberRange.{NumberRange}
use Rattle.kept_unit.specs.Ranges.{span, numbers_in_ranges, rise_to}
use Rattle.kept_unit.specs.Agreeing.{rises}

is_above : (n : ℕ) → nat_lt n (n + 1) ≡ true
is_above n = grind (arith, nat_tests)

rises_span : (first k : ℕ) (ys : List ℕ) → rises first (span first k ++ ys) ≡ rises (first + k) ys
rises_span first zero ys = let e : first ≡ first + 0 = omega arith in ap (λ (low : ℕ). rises low ys) e
rises_span first (suc k) ys =
    let e : (first + 1) + k ≡ first + suc k = omega arith in
    ap (λ (b : Bool). b && rises (first + 1) (span (first + 1) k ++ ys)) (is_above first) ∙ rises_span (first + 1) k ys ∙ ap (λ (low : ℕ). rises low ys) e

through : (r : NumberRange) (rs : List NumberRange) (low : ℕ) (ys : List ℕ) → rises low (numbers_in_ranges (r ∷ rs) ++ ys) ≡ (nat_lt low r.first && rises r.last (numbers_in_ranges rs ++ ys))
through r rs low ys =
    let ordered : r.first ≤ r.last = r.ordered in
    let k = r.last - r.first in
    let end : r.first + k ≡ r.last = omega arith in
    ap (λ (b : Bool). nat_lt low r.first && b)
    (ap (rises r.first) (append_assoc (span r.first k) (numbers_in_ranges rs) ys) ∙ rises_span r.first k (numbers_in_ranges rs ++ ys) ∙ ap (λ (n : ℕ). rises n (numbers_in_ranges rs ++ ys)) end)

past : (b x : Bool) (o : Option ℕ) (last : ℕ) (y : Bool) → (o ≡ Some last → x ≡ y) → (if b then o else None) ≡ Some last → (b && x) ≡ y
past true x o last y f e = f e
past false x o last y f e = absurd (cc)

fails : (b x : Bool) (o : Option ℕ) → (o ≡ None → x ≡ false) → (if b then o else None) ≡ None → (b && x) ≡ false
fails true x o f e = f e
fails false x o f e = refl

rises_past : (rs : List NumberRange) (low last : ℕ) (ys : List ℕ) → rise_to low rs ≡ Some last → rises low (numbers_in_ranges rs ++ ys) ≡ rises last ys
rises_past [] low last ys e = let is : low ≡ last = cc in ap (λ (n : ℕ). rises n ys) is
rises_past (r ∷ rs) low last ys e =
    through r rs low ys ∙ past (nat_lt low r.first) (rises r.last (numbers_in_ranges rs ++ ys)) (rise_to r.last rs) last (rises last ys) (rises_past rs r.last last ys) e

rises_not : (rs : List NumberRange) (low : ℕ) (ys : List ℕ) → rise_to low rs ≡ None → rises low (numbers_in_ranges rs ++ ys) ≡ false
rises_not [] low ys e = absurd (cc)
rises_not (r ∷ rs) low ys e =
    through r rs low ys ∙ fails (nat_lt low r.first) (rises r.last (numbers_in_ranges rs ++ ys)) (rise_to r.last rs) (rises_not rs r.last ys) e

-- settled ranges, and the numbers behind them, as ranges too
pub settled_falls : (settled : List NumberRange) (first : ℕ) (ns : List ℕ) → rise_to first settled ≡ None → rises first (numbers_in_ranges settled ++ ns) ≡ false
settled_falls settled first ns e = rises_not settled first ns e

pub settled_rises : (settled : List NumberRange) (first low : ℕ) (ns : List ℕ) → rise_to first settled ≡ Some low → rises first (numbers_in_ranges settled ++ ns) ≡ rises low ns
settled_rises settled first low ns e = rises_past settled first low ns e

pub listed_falls : (listed : List NumberRange) (low : ℕ) (ns : List ℕ) → numbers_in_ranges listed ≡ ns → rise_to low listed ≡ None → rises low ns ≡ false
listed_falls listed low ns is e = ap (rises low) (sym is ∙ sym (append-nil (numbers_in_ranges listed))) ∙ rises_not listed low [] e

pub listed_rises : (listed : List NumberRange) (low last : ℕ) (ns : List ℕ) → numbers_in_ranges listed ≡ ns → rise_to low listed ≡ Some last → rises low ns ≡ true
listed_rises listed low last ns is e = ap (rises low) (sym is ∙ sym (append-nil (numbers_in_ranges listed))) ∙ rises_past listed low last [] e
