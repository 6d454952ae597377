-- A range that goes among others, joined with its neighbours where it touches them.
use Rattle.std.proofs.Common.{◌≡◌, ℕ, zero, suc, ◌+◌, ◌-◌, ◌<◌, ◌≤◌, List, [], ◌∷◌, ◌++◌, length, Bool, true, false, ◌&&◌, ◌||◌, inl, inr, get_or, take, drop, refl, sym, ap, ◌∙◌, subst, arith}
use Rattle.std.specs.Prelude.{nat_le, nat_lt}
use Rattle.std.proofs.lemmas.Bool.{and_parts, and_from, or_cases}
use Rattle.std.proofs.lemmas.Bool.Decides.{nat_tests}
use Rattle.std.proofs.lemmas.List.{take_more, drop_more, take-append-drop}
use Rattle.std.proofs.lemmas.List.Sums.{sum_by-cons, sum_by-append, sum_by_push}
use Rattle.settled_numbers.specs.declared.number_range.NumberRange.{NumberRange}
use Rattle.settled_numbers.specs.Numbers.{is_in, has, size, count, is_joined, end}
use Rattle.settled_numbers.specs.Placing.{LowFits, HighFits, Joins}

or_assoc : (a b c : Bool) → (a || (b || c)) ≡ ((a || b) || c)
or_assoc true b c = refl
or_assoc false b c = refl

and_assoc : (a b c : Bool) → (a && (b && c)) ≡ ((a && b) && c)
and_assoc true b c = refl
and_assoc false b c = refl

has_append : (xs ys : List NumberRange) (n : ℕ) → has (xs ++ ys) n ≡ (has xs n || has ys n)
has_append [] ys n = refl
has_append (x ∷ xs) ys n = ap (λ b. is_in n x || b) (has_append xs ys n) ∙ or_assoc (is_in n x) (has xs n) (has ys n)

joined_append : (low : ℕ) (xs ys : List NumberRange) → is_joined low (xs ++ ys) ≡ (is_joined low xs && is_joined (end low xs) ys)
joined_append low [] ys = refl
joined_append low (x ∷ xs) ys =
    ap (λ b. nat_le low x.first && b) (joined_append (x.last + 2) xs ys) ∙ and_assoc (nat_le low x.first) (is_joined (x.last + 2) xs) (is_joined (end (x.last + 2) xs) ys)

le_test : (a b : ℕ) → nat_le a b ≡ true → a ≤ b
le_test a b e = grind (arith, nat_tests)

test_le : (a b : ℕ) → a ≤ b → nat_le a b ≡ true
test_le a b e = grind (arith, nat_tests)

in_parts : (n : ℕ) (r : NumberRange) → is_in n r ≡ true → (r.first ≤ n) × (n ≤ r.last)
in_parts n r e = let p = and_parts (nat_le r.first n) (nat_le n r.last) e in (le_test _ _ p.0, le_test _ _ p.1)

in_from : (n : ℕ) (r : NumberRange) → r.first ≤ n → n ≤ r.last → is_in n r ≡ true
in_from n r le up = and_from (nat_le r.first n) (nat_le n r.last) (test_le _ _ le) (test_le _ _ up)

pub head_parts : (low : ℕ) (x : NumberRange) (xs : List NumberRange) → is_joined low (x ∷ xs) ≡ true → (low ≤ x.first) × (is_joined (x.last + 2) xs ≡ true)
head_parts low x xs e = let p = and_parts (nat_le low x.first) (is_joined (x.last + 2) xs) e in (le_test _ _ p.0, p.1)

le_end : (low : ℕ) (xs : List NumberRange) → is_joined low xs ≡ true → low ≤ end low xs
le_end low [] e = omega arith
le_end low (x ∷ xs) e =
    let p = head_parts low x xs e in
    let rest = le_end (x.last + 2) xs p.1 in
    let ordered : x.first ≤ x.last = x.ordered in
    omega (arith, p.0, rest, ordered)

has_end : (low : ℕ) (xs : List NumberRange) (n : ℕ) → is_joined low xs ≡ true → has xs n ≡ true → n + 2 ≤ end low xs
has_end low [] n e h = absurd (cc)
has_end low (x ∷ xs) n e h =
    let p = head_parts low x xs e in
    elim (or_cases (is_in n x) (has xs n) h) [
      | inl here ↦ (let q = in_parts n x here in let rest = le_end (x.last + 2) xs p.1 in omega (arith, q.1, rest))
      | inr later ↦ has_end (x.last + 2) xs n p.1 later
    ]

has_from : (low : ℕ) (xs : List NumberRange) (n : ℕ) → is_joined low xs ≡ true → has xs n ≡ true → low ≤ n
has_from low [] n e h = absurd (cc)
has_from low (x ∷ xs) n e h =
    let p = head_parts low x xs e in
    let ordered : x.first ≤ x.last = x.ordered in
    elim (or_cases (is_in n x) (has xs n) h) [
      | inl here ↦ (let q = in_parts n x here in omega (arith, q.0, p.0))
      | inr later ↦ (let rest = has_from (x.last + 2) xs n p.1 later in omega (arith, rest, p.0, ordered))
    ]

-- what stays in front, and the numbers from the new beginning up to the range
record LowPart (front kept : List NumberRange) (r : NumberRange) (first : ℕ) : Type 0 where
  pub joined : is_joined 0 kept ≡ true
  pub fits : end 0 kept ≤ first
  pub le : first ≤ r.first
  pub numbers : (n : ℕ) → has front n ≡ (has kept n || (nat_le first n && nat_lt n r.first))
  pub count : count front ≡ count kept + (r.first - first)
  pub apart : (n : ℕ) → has front n ≡ true → n < r.first

nothing_low : (first a n : ℕ) (b : Bool) → first ≡ a → b ≡ (b || (nat_le first n && nat_lt n a))
nothing_low first a n true e = refl
nothing_low first a n false e = grind (arith, nat_tests)

piece_low : (l : NumberRange) (first a n : ℕ) (b : Bool) → l.first ≡ first → l.last + 1 ≡ a → (b || (is_in n l || false)) ≡ (b || (nat_le first n && nat_lt n a))
piece_low l first a n true e f = refl
piece_low l first a n false e f = grind (arith, nat_tests)

low_part : (front kept : List NumberRange) (r : NumberRange) (first : ℕ) → is_joined 0 front ≡ true → LowFits front kept r first → LowPart front kept r first
low_part front kept r first joined (inl apart) =
    record {
      joined = subst (λ (k : List NumberRange). is_joined 0 k ≡ true) (sym apart.0) joined;
      fits = let e : end 0 kept ≡ end 0 front = ap (end 0) apart.0 in omega (arith, e, apart.1, apart.2);
      le = omega (arith, apart.1);
      numbers = λ n. nothing_low first r.first n (has front n) apart.1 ∙ ap (λ (k : List NumberRange). has k n || (nat_le first n && nat_lt n r.first)) (sym apart.0);
      count = let e : count kept ≡ count front = ap count apart.0 in omega (arith, e, apart.1);
      apart = λ n h. (let e = has_end 0 front n joined h in omega (arith, e, apart.2));
    }
low_part front kept r first joined (inr touching) =
    let l = touching.0 in
    let ordered : l.first ≤ l.last = l.ordered in
    let both : is_joined 0 (kept ++ l ∷ []) ≡ true = subst (λ (k : List NumberRange). is_joined 0 k ≡ true) touching.1 joined in
    let p = and_parts (is_joined 0 kept) (is_joined (end 0 kept) (l ∷ [])) (sym (joined_append 0 kept (l ∷ [])) ∙ both) in
    let q = head_parts (end 0 kept) l [] p.1 in
    let begins : l.first ≡ first = touching.2 in
    let ends : l.last + 1 ≡ r.first = touching.3 in
    record {
      joined = p.0;
      fits = omega (arith, q.0, begins);
      le = omega (arith, begins, ends, ordered);
      numbers = λ n. ap (λ (k : List NumberRange). has k n) touching.1 ∙ has_append kept (l ∷ []) n ∙ piece_low l first r.first n (has kept n) begins ends;
      count = (let e = ap count touching.1 ∙ sum_by-append size kept (l ∷ []) in let s = sum_by-cons size l [] in omega (arith, e, s, begins, ends, ordered));
      apart = λ n h.
          elim (or_cases (has kept n) (has (l ∷ []) n) (sym (has_append kept (l ∷ []) n) ∙ sym (ap (λ (k : List NumberRange). has k n) touching.1) ∙ h)) [
            | inl here ↦ (let e = has_end 0 kept n p.0 here in omega (arith, e, q.0, ends, ordered))
            | inr here ↦ elim (or_cases (is_in n l) false here) [
              | inl one ↦ (let i = in_parts n l one in omega (arith, i.1, ends))
              | inr none ↦ absurd (cc)
            ]
          ];
    }

-- what stays behind, and the numbers from the range up to the new end
record HighPart (back kept : List NumberRange) (r : NumberRange) (last : ℕ) : Type 0 where
  pub joined : is_joined (last + 2) kept ≡ true
  pub le : r.last ≤ last
  pub numbers : (n : ℕ) → has back n ≡ ((nat_lt r.last n && nat_le n last) || has kept n)
  pub count : count back ≡ (last - r.last) + count kept
  pub apart : (n : ℕ) → has back n ≡ true → r.last < n

nothing_high : (a last n : ℕ) → last ≡ a → false ≡ (nat_lt a n && nat_le n last)
nothing_high a last n e = grind (arith, nat_tests)

piece_high : (h : NumberRange) (a last n : ℕ) → h.last ≡ last → h.first ≡ a + 1 → is_in n h ≡ (nat_lt a n && nat_le n last)
piece_high h a last n e f = grind (arith, nat_tests)

high_part : (back kept : List NumberRange) (r : NumberRange) (last : ℕ) (low : ℕ) → is_joined low back ≡ true → HighFits back kept r last → HighPart back kept r last
high_part back kept r last low joined (inl apart) =
    record {
      joined = subst (λ (k : List NumberRange). is_joined (last + 2) k ≡ true) (sym apart.0) (subst (λ (n : ℕ). is_joined (n + 2) back ≡ true) (sym apart.1) apart.2);
      le = omega (arith, apart.1);
      numbers = λ n. ap (λ b. b || has back n) (nothing_high r.last last n apart.1) ∙ ap (λ (k : List NumberRange). (nat_lt r.last n && nat_le n last) || has k n) (sym apart.0);
      count = let e : count kept ≡ count back = ap count apart.0 in omega (arith, e, apart.1);
      apart = λ n h. (let e = has_from (r.last + 2) back n apart.2 h in omega (arith, e));
    }
high_part back kept r last low joined (inr touching) =
    let h = touching.0 in
    let ordered : h.first ≤ h.last = h.ordered in
    let both : is_joined low (h ∷ kept) ≡ true = subst (λ (k : List NumberRange). is_joined low k ≡ true) touching.1 joined in
    let q = head_parts low h kept both in
    let ends : h.last ≡ last = touching.2 in
    let begins : h.first ≡ r.last + 1 = touching.3 in
    record {
      joined = subst (λ (n : ℕ). is_joined (n + 2) kept ≡ true) ends q.1;
      le = omega (arith, begins, ends, ordered);
      numbers = λ n. ap (λ (k : List NumberRange). has k n) touching.1 ∙ ap (λ b. b || has kept n) (piece_high h r.last last n ends begins);
      count = (let e = ap count touching.1 ∙ sum_by-cons size h kept in omega (arith, e, begins, ends, ordered));
      apart = λ n i.
          elim (or_cases (is_in n h) (has kept n) (sym (ap (λ (k : List NumberRange). has k n) touching.1) ∙ i)) [
            | inl one ↦ (let p = in_parts n h one in omega (arith, p.0, begins))
            | inr later ↦ (let e = has_from (h.last + 2) kept n q.1 later in omega (arith, e, begins, ordered))
          ];
    }

shuffled : (a p q b r : Bool) → (a || ((p || (r || q)) || b)) ≡ (((a || p) || (q || b)) || r)
shuffled true p q b r = refl
shuffled false true q b r = refl
shuffled false false true b true = refl
shuffled false false true b false = refl
shuffled false false false true true = refl
shuffled false false false true false = refl
shuffled false false false false true = refl
shuffled false false false false false = refl

three_pieces : (f a b l n : ℕ) → f ≤ a → a ≤ b → b ≤ l → (nat_le f n && nat_le n l) ≡ ((nat_le f n && nat_lt n a) || ((nat_le a n && nat_le n b) || (nat_lt b n && nat_le n l)))
three_pieces f a b l n fa ab bl = grind (arith, nat_tests)

joins_parts : (front kept back rest : List NumberRange) (r m : NumberRange) → LowPart front kept r m.first → HighPart back rest r m.last → Joins (front ++ back) r (kept ++ m ∷ rest)
joins_parts front kept back rest r m low high =
    let ordered : r.first ≤ r.last = r.ordered in
    record {
      joined = joined_append 0 kept (m ∷ rest) ∙ and_from (is_joined 0 kept) (is_joined (end 0 kept) (m ∷ rest)) low.joined (and_from (nat_le (end 0 kept) m.first) (is_joined (m.last + 2) rest) (test_le _ _ low.fits) high.joined);
      numbers = λ n.
          has_append kept (m ∷ rest) n
          ∙ ap (λ b. has kept n || (b || has rest n)) (three_pieces m.first r.first r.last m.last n low.le ordered high.le)
          ∙ shuffled (has kept n) (nat_le m.first n && nat_lt n r.first) (nat_lt r.last n && nat_le n m.last) (has rest n) (is_in n r)
          ∙ sym (ap (λ b. b || is_in n r) (has_append front back n ∙ ap (λ b. b || has back n) (low.numbers n) ∙ ap (λ b. (has kept n || (nat_le m.first n && nat_lt n r.first)) || b) (high.numbers n)));
      count =
          (let e = sum_by-append size kept (m ∷ rest) in
          let s = sum_by-cons size m rest in
          let t = sum_by-append size front back in
          let i = low.count in let j = high.count in let k = low.le in let l = high.le in
          omega (arith, e, s, t, i, j, k, l, ordered));
      apart = λ x.
          (let n = x.0 in let i = in_parts n r x.2 in
          elim (or_cases (has front n) (has back n) (sym (has_append front back n) ∙ x.1)) [
            | inl here ↦ (let e = low.apart n here in absurd (omega (arith, e, i.0)))
            | inr here ↦ (let e = high.apart n here in absurd (omega (arith, e, i.1)))
          ]);
    }

pub joins : (rs kept rest : List NumberRange) (at : ℕ) (r m : NumberRange) → is_joined 0 rs ≡ true → LowFits (take at rs) kept r m.first → HighFits (drop at rs) rest r m.last → Joins rs r (kept ++ m ∷ rest)
joins rs kept rest at r m joined low high =
    let parts = and_parts (is_joined 0 (take at rs)) (is_joined (end 0 (take at rs)) (drop at rs)) (sym (joined_append 0 (take at rs) (drop at rs)) ∙ ap (is_joined 0) (take-append-drop at rs) ∙ joined) in
    subst (λ (k : List NumberRange). Joins k r (kept ++ m ∷ rest)) (take-append-drop at rs)
    (joins_parts (take at rs) kept (drop at rs) rest r m (low_part (take at rs) kept r m.first parts.0 low) (high_part (drop at rs) rest r m.last (end 0 (take at rs)) parts.1 high))

pub or_true : (b : Bool) → (b || true) ≡ true
or_true true = refl
or_true false = refl

end_snoc : (low : ℕ) (xs : List NumberRange) (l : NumberRange) → end low (xs ++ l ∷ []) ≡ l.last + 2
end_snoc low [] l = refl
end_snoc low (x ∷ xs) l = end_snoc (x.last + 2) xs l

pub in_range : (n : ℕ) (r : NumberRange) → r.first ≤ n → n ≤ r.last → is_in n r ≡ true
in_range n r le up = in_from n r le up

pub has_at : (rs : List NumberRange) (i : ℕ) (d : NumberRange) (n : ℕ) → i < length rs → (get_or rs i d).first ≤ n → n ≤ (get_or rs i d).last → has rs n ≡ true
has_at [] i d n lt le up = absurd (omega arith)
has_at (x ∷ xs) zero d n lt le up = ap (λ b. b || has xs n) (in_from n x le up)
has_at (x ∷ xs) (suc i) d n lt le up = ap (λ b. is_in n x || b) (has_at xs i d n (omega arith) le up) ∙ or_true (is_in n x)

-- the end of the ranges in front of a place
pub end_at : (low : ℕ) (rs : List NumberRange) (i : ℕ) (d : NumberRange) → i < length rs → end low (take (i + 1) rs) ≡ (get_or rs i d).last + 2
end_at low rs i d lt = ap (end low) (take_more rs i d lt) ∙ end_snoc low (take i rs) (get_or rs i d)

-- what is behind a place may begin later if the range there does
pub joined_behind : (rs : List NumberRange) (at : ℕ) (d : NumberRange) (low : ℕ) → is_joined 0 rs ≡ true → at < length rs → low ≤ (get_or rs at d).first → is_joined low (drop at rs) ≡ true
joined_behind rs at d low joined lt le =
    let parts = and_parts (is_joined 0 (take at rs)) (is_joined (end 0 (take at rs)) (drop at rs)) (sym (joined_append 0 (take at rs) (drop at rs)) ∙ ap (is_joined 0) (take-append-drop at rs) ∙ joined) in
    let cut = drop_more rs at d lt in
    let q = head_parts (end 0 (take at rs)) (get_or rs at d) (drop (at + 1) rs) (sym (ap (is_joined (end 0 (take at rs))) cut) ∙ parts.1) in
    ap (is_joined low) cut ∙ and_from (nat_le low (get_or rs at d).first) (is_joined ((get_or rs at d).last + 2) (drop (at + 1) rs)) (test_le _ _ le) q.1

-- the last range of a seat goes over
moved : (a b c : Bool) → ((a || b) || c) ≡ (a || (c || (b || false)))
moved true b c = refl
moved false true true = refl
moved false true false = refl
moved false false true = refl
moved false false false = refl

pub number_moved : (before after rest all : List NumberRange) (r : NumberRange) (n : ℕ) → has after n ≡ (has before n || is_in n r) → all ≡ rest ++ r ∷ [] → (has after n || has rest n) ≡ (has before n || has all n)
number_moved before after rest all r n taken is =
    ap (λ b. b || has rest n) taken
    ∙ moved (has before n) (is_in n r) (has rest n)
    ∙ ap (λ b. has before n || b) (sym (ap (λ (k : List NumberRange). has k n) is ∙ has_append rest (r ∷ []) n))

pub count_moved : (rest all : List NumberRange) (r : NumberRange) → all ≡ rest ++ r ∷ [] → count all ≡ count rest + size r
count_moved rest all r is = ap count is ∙ sum_by_push size rest r

-- ranges whose numbers are all above one may begin there
pub from_head : (rs : List NumberRange) (low : ℕ) → is_joined 0 rs ≡ true → ((n : ℕ) → has rs n ≡ true → low ≤ n) → is_joined low rs ≡ true
from_head [] low joined above = refl
from_head (r ∷ rs) low joined above =
    let ordered : r.first ≤ r.last = r.ordered in
    let p = head_parts 0 r rs joined in
    and_from (nat_le low r.first) (is_joined (r.last + 2) rs) (test_le _ _ (above r.first (ap (λ b. b || has rs r.first) (in_from r.first r (omega arith) ordered)))) p.1
