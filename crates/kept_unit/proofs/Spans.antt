-- Ranges of which the sorted ones follow one another stand for a span in some order, and only those.
use Rattle.std.proofs.Common.{◌≡◌, ℕ, zero, suc, ◌+◌, ◌-◌, ◌<◌, ◌≤◌, List, [], ◌∷◌, ◌++◌, length, Bool, true, false, ◌&&◌, ◌==◌, refl, sym, ap, ◌∙◌, subst, arith}
use Rattle.std.specs.Prelude.{if◌then◌else◌, nat_le, sum_by, IsPermutation}
use Rattle.std.specs.List.Sorted.{IsNonDecreasingBy}
use Rattle.std.proofs.lemmas.Bool.{eq-eqb}
use Rattle.std.proofs.lemmas.Bool.Decides.{nat_tests}
use Rattle.std.proofs.lemmas.List.Sums.{sum_by-cons, sum_by-append}
use Rattle.std.proofs.lemmas.List.Sorted.{sum_by-IsPermutation, length_permutation, IsPermutation-refl, IsPermutation-cons, IsPermutation-sym, IsPermutation-trans, IsPermutation-middle}
use Rattle.settled_numbers.specs.declared.number_range.NumberRange.{NumberRange}
use Rattle.kept_unit.specs.Ranges.{span, from_to, numbers_between, numbers_in_ranges, follows}

-- the same numbers, as often
abbrev Same : List ℕ → List ℕ → Type 0
Same xs ys = (f : ℕ → ℕ) → sum_by f xs ≡ sum_by f ys

abbrev ascends : ℕ → List NumberRange → Type 0
ascends low [] = Unit {0}
ascends low (r ∷ rs) = (low ≤ r.first) × ascends r.first rs

abbrev climbs : List NumberRange → Type 0
climbs [] = Unit {0}
climbs (r ∷ rs) = ascends r.first rs

climbs_tail : (r : NumberRange) (rs : List NumberRange) → ascends r.first rs → climbs rs
climbs_tail r [] up = tt
climbs_tail r (s ∷ ss) up = up.1

ascends_from : (r : NumberRange) (rs : List NumberRange) → IsNonDecreasingBy (λ (s : NumberRange). s.first) (r ∷ rs) → ascends r.first rs
ascends_from r [] up = tt
ascends_from r (s ∷ ss) up =
    (up 0 1 r (omega arith) (omega arith), ascends_from s ss (λ i j d le lt. up (suc i) (suc j) d (omega arith) (omega arith)))

climbs_from : (rs : List NumberRange) → IsNonDecreasingBy (λ (s : NumberRange). s.first) rs → climbs rs
climbs_from [] up = tt
climbs_from (r ∷ rs) up = ascends_from r rs up

span_above : (low first n : ℕ) → low ≤ first → sum_by (λ k. if nat_le k low then 1 else 0) (span first n) ≡ 0
span_above low first zero le = refl
span_above low first (suc n) le =
    let rest = span_above low (first + 1) n (omega arith) in
    sum_by-cons _ (first + 1) (span (first + 1) n) ∙ grind (arith, nat_tests)

span_apart : (low first n : ℕ) → low ≤ first → sum_by (λ k. if k == low then 1 else 0) (span first n) ≡ 0
span_apart low first zero le = refl
span_apart low first (suc n) le =
    let rest = span_apart low (first + 1) n (omega arith) in
    sum_by-cons _ (first + 1) (span (first + 1) n) ∙ grind (arith, nat_tests)

-- a number below where ranges begin is in none of them
high : (low : ℕ) (r : NumberRange) (rs : List NumberRange) → ascends r.first rs → low < r.first → sum_by (λ k. if k == low then 1 else 0) (span r.first (r.last - r.first) ++ numbers_in_ranges rs) ≡ 0
high low r [] up lt = sum_by-append _ (span r.first (r.last - r.first)) [] ∙ (let own = span_apart low r.first (r.last - r.first) (omega arith) in omega arith)
high low r (s ∷ ss) up lt =
    let le : r.first ≤ s.first = up.0 in
    let own = span_apart low r.first (r.last - r.first) (omega arith) in
    let rest = high low s ss up.1 (omega arith) in
    let first = sum_by-cons (λ k. if k == low then 1 else 0) s.first (span s.first (s.last - s.first) ++ numbers_in_ranges ss) in
    sum_by-append _ (span r.first (r.last - r.first)) (numbers_in_ranges (s ∷ ss)) ∙ grind (arith, nat_tests)

above : (x first s : ℕ) → 0 ≡ (if nat_le x first then 1 else 0) + s → first < x
above x first s h = grind (arith, nat_tests)

below : (x t a s : ℕ) → (if t == t then 1 else 0) + a ≡ (if x == t then 1 else 0) + s → (t < x → s ≡ 0) → x ≤ t
below x t a s h none = grind (arith, nat_tests)

both : (a b : Bool) → a ≡ true → b ≡ true → (a && b) ≡ true
both a b p q = ap (λ x. x && b) p ∙ q

and_true : (a b : Bool) → (a && b) ≡ true → (a ≡ true) × (b ≡ true)
and_true true b e = (refl, e)
and_true false b e = absurd (cc)

-- what is left of a span when its beginning is taken off
record Peeled (k n first : ℕ) (rest : List ℕ) : Type 0 where
  pub m : ℕ
  pub is : n ≡ k + m
  pub same : Same (span (first + k) m) rest

peel : (k n first : ℕ) (rest : List ℕ) → Same (span first n) (span first k ++ rest) → Peeled k n first rest
peel zero n first rest same = record { m = n; is = omega arith; same = subst (λ (f : ℕ). Same (span f n) rest) (let e : first ≡ first + 0 = omega arith in e) same }
peel (suc k) zero first rest same = absurd (let h = same (λ _. 1) ∙ sum_by-cons (λ _. 1) (first + 1) (span (first + 1) k ++ rest) in omega arith)
peel (suc k) (suc n) first rest same =
    let tail : Same (span (first + 1) n) (span (first + 1) k ++ rest) = λ f.
    (let h = sym (sum_by-cons f (first + 1) (span (first + 1) n)) ∙ same f ∙ sum_by-cons f (first + 1) (span (first + 1) k ++ rest) in omega arith) in
    let p = peel k n (first + 1) rest tail in
    let is : n ≡ k + p.m = p.is in
    let at : (first + 1) + k ≡ first + suc k = omega arith in
    record { m = p.m; is = omega arith; same = subst (λ (f : ℕ). Same (span f p.m) rest) at p.same }

follows_first : (r : NumberRange) (rs : List NumberRange) (n first : ℕ) → ascends r.first rs → Same (span first (suc n)) (numbers_in_ranges (r ∷ rs)) → r.first ≡ first + 1
follows_first r rs n first up same =
    let behind = span r.first (r.last - r.first) ++ numbers_in_ranges rs in
    let lo : first < r.first = above r.first first _ (sym (span_above first first (suc n) (omega arith)) ∙ same (λ k. if nat_le k first then 1 else 0) ∙ sum_by-cons _ r.first behind) in
    let hi : r.first ≤ first + 1 = below r.first (first + 1) _ _ (sym (sum_by-cons (λ k. if k == first + 1 then 1 else 0) (first + 1) (span (first + 1) n)) ∙ same (λ k. if k == first + 1 then 1 else 0) ∙ sum_by-cons _ r.first behind) (high (first + 1) r rs up) in
    omega arith

follows_from : (rs : List NumberRange) (n first last : ℕ) → climbs rs → last ≡ first + n → Same (span first n) (numbers_in_ranges rs) → follows first last rs ≡ true
follows_from [] zero first last up is same = eq-eqb first last (omega arith)
follows_from [] (suc n) first last up is same = absurd (let h = sym (sum_by-cons (λ _. 1) (first + 1) (span (first + 1) n)) ∙ same (λ _. 1) in omega arith)
follows_from (r ∷ rs) zero first last up is same = absurd (let h = same (λ _. 1) ∙ sum_by-cons (λ _. 1) r.first (span r.first (r.last - r.first) ++ numbers_in_ranges rs) in omega arith)
follows_from (r ∷ rs) (suc n) first last up is same =
    let begins : r.first ≡ first + 1 = follows_first r rs n first up same in
    let ordered : r.first ≤ r.last = r.ordered in
    let k = r.last - r.first in
    let own : numbers_between r ≡ span first (suc k) = ap (λ (f : ℕ). f ∷ span f k) begins in
    let p = peel (suc k) (suc n) first (numbers_in_ranges rs) (λ f. same f ∙ ap (λ (l : List ℕ). sum_by f (l ++ numbers_in_ranges rs)) own) in
    let left : suc n ≡ suc k + p.m = p.is in
    let end : first + suc k ≡ r.last = omega arith in
    both _ _ (eq-eqb r.first (first + 1) begins)
    (follows_from rs p.m r.last last (climbs_tail r rs up) (omega arith) (subst (λ (f : ℕ). Same (span f p.m) (numbers_in_ranges rs)) end p.same))

pub span_append : (k m first : ℕ) → span first k ++ span (first + k) m ≡ span first (k + m)
span_append zero m first = (let e : first + 0 ≡ first = omega arith in ap (λ (f : ℕ). span f m) e) ∙ (let e : m ≡ 0 + m = omega arith in ap (span first) e)
span_append (suc k) m first =
    (let e : first + suc k ≡ (first + 1) + k = omega arith in ap (λ (f : ℕ). (first + 1) ∷ (span (first + 1) k ++ span f m)) e)
    ∙ ap (λ (l : List ℕ). (first + 1) ∷ l) (span_append k m (first + 1))
    ∙ (let e : suc (k + m) ≡ suc k + m = omega arith in ap (span first) e)

record IsSpan (first last : ℕ) (rs : List NumberRange) : Type 0 where
  pub le : first ≤ last
  pub is : numbers_in_ranges rs ≡ span first (last - first)

is_follows : (rs : List NumberRange) (first last : ℕ) → follows first last rs ≡ true → IsSpan first last rs
is_follows [] first last e =
    let same : first ≡ last = grind (arith, nat_tests) in
    let none : 0 ≡ last - first = omega arith in
    record { le = omega arith; is = ap (span first) none }
is_follows (r ∷ rs) first last e =
    let p : ((r.first == first + 1) ≡ true) × (follows r.last last rs ≡ true) = and_true _ _ e in
    let begins : r.first ≡ first + 1 = grind (arith, nat_tests) in
    let rest = is_follows rs r.last last p.1 in
    let ordered : r.first ≤ r.last = r.ordered in
    let le : r.last ≤ last = rest.le in
    let k = r.last - r.first in
    let own : numbers_between r ≡ span first (suc k) = ap (λ (f : ℕ). f ∷ span f k) begins in
    let end : r.last ≡ first + suc k = omega arith in
    let count : suc k + (last - r.last) ≡ last - first = omega arith in
    record {
      le = omega arith;
      is = ap (λ (l : List ℕ). l ++ numbers_in_ranges rs) own
          ∙ ap (λ (l : List ℕ). span first (suc k) ++ l) rest.is
          ∙ ap (λ (f : ℕ). span first (suc k) ++ span f (last - r.last)) end
          ∙ span_append (suc k) (last - r.last) first
          ∙ ap (span first) count;
    }

-- lists with the same numbers are the same in some order
record Split (x : ℕ) (ys : List ℕ) : Type 0 where
  pub front : List ℕ
  pub back : List ℕ
  pub is : ys ≡ front ++ x ∷ back

split_at : (b : Bool) (x c y : ℕ) (ys : List ℕ) → ((d : ℕ) → sum_by (λ k. if k == x then 1 else 0) ys ≡ suc d → Split x ys) → (y == x) ≡ b → sum_by (λ k. if k == x then 1 else 0) (y ∷ ys) ≡ suc c → Split x (y ∷ ys)
split_at true x c y ys later same e = let is : y ≡ x = grind (arith, nat_tests) in record { front = []; back = ys; is = ap (λ (k : ℕ). k ∷ ys) is }
split_at false x c y ys later apart e =
    let first = sum_by-cons (λ k. if k == x then 1 else 0) y ys in
    let rest : sum_by (λ k. if k == x then 1 else 0) ys ≡ suc c = grind (arith, nat_tests) in
    let s = later c rest in
    record { front = y ∷ s.front; back = s.back; is = ap (λ (l : List ℕ). y ∷ l) s.is }

split : (x c : ℕ) (ys : List ℕ) → sum_by (λ k. if k == x then 1 else 0) ys ≡ suc c → Split x ys
split x c [] e = absurd (omega arith)
split x c (y ∷ ys) e = split_at (y == x) x c y ys (λ d h. split x d ys h) refl e

one_more : (x s t : ℕ) → t ≡ (if x == x then 1 else 0) + s → t ≡ suc s
one_more x s t h = grind (arith, nat_tests)

pub from_same : (xs ys : List ℕ) → Same xs ys → IsPermutation xs ys
from_same [] [] same = IsPermutation-refl []
from_same [] (y ∷ ys) same = absurd (let h = same (λ _. 1) ∙ sum_by-cons (λ _. 1) y ys in omega arith)
from_same (x ∷ xs) ys same =
    let test = λ (k : ℕ). if k == x then 1 else 0 in
    let count : sum_by test ys ≡ suc (sum_by test xs) = one_more x (sum_by test xs) (sum_by test ys) (sym (same test) ∙ sum_by-cons test x xs) in
    let s = split x (sum_by test xs) ys count in
    let rest : Same xs (s.front ++ s.back) = λ f.
    (let all = sym (sum_by-cons f x xs) ∙ same f ∙ ap (sum_by f) s.is ∙ sum_by-append f s.front (x ∷ s.back) in
    let behind = sum_by-cons f x s.back in
    let joined = sum_by-append f s.front s.back in omega arith) in
    subst (λ (l : List ℕ). IsPermutation (x ∷ xs) l) (sym s.is)
    (IsPermutation-trans (x ∷ xs) (x ∷ (s.front ++ s.back)) (s.front ++ x ∷ s.back) (IsPermutation-cons x xs (s.front ++ s.back) (from_same xs (s.front ++ s.back) rest))
    (IsPermutation-sym _ _ (IsPermutation-middle s.front x s.back)))

-- the numbers of ranges don't change with their order
by_range : (f : ℕ → ℕ) (rs : List NumberRange) → sum_by f (numbers_in_ranges rs) ≡ sum_by (λ (r : NumberRange). sum_by f (numbers_between r)) rs
by_range f [] = refl
by_range f (r ∷ rs) =
    sum_by-append f (numbers_between r) (numbers_in_ranges rs)
    ∙ ap (λ (k : ℕ). sum_by f (numbers_between r) + k) (by_range f rs)
    ∙ sym (sum_by-cons (λ (r : NumberRange). sum_by f (numbers_between r)) r rs)

same_moved : (xs ys : List NumberRange) → IsPermutation xs ys → Same (numbers_in_ranges xs) (numbers_in_ranges ys)
same_moved xs ys moved = λ f.
    by_range f xs ∙ sym (sum_by-IsPermutation (λ (r : NumberRange). sum_by f (numbers_between r)) xs ys moved) ∙ sym (by_range f ys)

-- the sorted ranges follow one another exactly if the numbers are the span in some order
pub to_span : (first last : ℕ) (numbers : List ℕ) (xs ys : List NumberRange) → numbers_in_ranges xs ≡ numbers → IsPermutation xs ys → follows first last ys ≡ true → IsPermutation numbers (span first (last - first))
to_span first last numbers xs ys is moved e =
    from_same numbers (span first (last - first)) (λ f. sym (ap (sum_by f) is) ∙ same_moved xs ys moved f ∙ ap (sum_by f) (is_follows ys first last e).is)

pub from_span : (first last : ℕ) (numbers : List ℕ) (xs ys : List NumberRange) → first ≤ last → numbers_in_ranges xs ≡ numbers → IsPermutation xs ys → IsNonDecreasingBy (λ (r : NumberRange). r.first) ys
    → IsPermutation numbers (span first (last - first)) → follows first last ys ≡ true
from_span first last numbers xs ys le is moved up spanned =
    follows_from ys (last - first) first last (climbs_from ys up) (omega arith)
    (λ f. sum_by-IsPermutation f numbers (span first (last - first)) spanned ∙ sym (ap (sum_by f) is) ∙ same_moved xs ys moved f)

pub length_span : (first n : ℕ) → length (span first n) ≡ n
length_span first zero = refl
length_span first (suc n) = ap suc (length_span (first + 1) n)

pub span_length : (first n : ℕ) (xs : List ℕ) → IsPermutation xs (span first n) → length xs ≡ n
span_length first n xs moved = sym (length_permutation xs (span first n) moved) ∙ length_span first n

-- one range behind another
pub numbers_joined : (low high : NumberRange) → high.first ≡ low.last + 1 → from_to low.first high.last ≡ numbers_between low ++ numbers_between high
numbers_joined low high next =
    let ordered : low.first ≤ low.last = low.ordered in
    let above : high.first ≤ high.last = high.ordered in
    let k = low.last - low.first in
    let m = high.last - high.first in
    let count : high.last - low.first ≡ k + suc m = omega arith in
    let all = span_append k (suc m) low.first in
    let at : (low.first + k) + 1 ≡ high.first = omega arith in
    ap (λ (c : ℕ). low.first ∷ span low.first c) count
    ∙ ap (λ (l : List ℕ). low.first ∷ l) (sym all)
    ∙ ap (λ (f : ℕ). low.first ∷ (span low.first k ++ f ∷ span f m)) at

pub single : (n : ℕ) → n ∷ span n (n - n) ≡ n ∷ []
single n = let none : n - n ≡ 0 = omega arith in ap (λ (k : ℕ). n ∷ span n k) none
