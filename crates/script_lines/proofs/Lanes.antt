-- Vectors that were computed lane by lane from one.
use Rattle.std.proofs.Common.{◌≡◌, ℕ, suc, ◌+◌, ◌-◌, ◌*◌, ◌%◌, ◌^◌, ◌≤◌, eqb, ltb, T, Bool, true, false, not, ◌&&◌, ◌||◌, cond, List, [], ◌∷◌, ◌++◌, map, length, take, drop, replicate, bit_or, Fits, w8, refl, sym, ap, ◌∙◌, arith, inl, inr}
use Rattle.std.specs.List.{list_all, range_with_len}
use Rattle.script_lines.specs.Words.{is_small}
use Rattle.std.proofs.lemmas.Bool.{agree_below, agree_below_at, and_parts, cases_eq, eq-eqb, ne_eqb, eqb-true, lt-ltb, le-ltb, ltb-true, ltb-false}
use Rattle.std.proofs.lemmas.List.{length-map, length-drop, length-take-le, take_all, take-append-drop}
use Rattle.std.proofs.lemmas.List.Folds.{list_all-append, list_all-map}
use Rattle.std.proofs.lemmas.Nat.{le_or_l, le_or_r}
use Rattle.std.proofs.lemmas.Simd.{bitmask_splat, map-map, mask_l-mod, pick_l_left, pick_l-range_with_len}
use native.Mathlib.Nat.{two-pow-succ, one-le-pow}
use lib.Bits.{or_lt}
use lib.Lanes.{Each1, all_below, mask_l, pick_l, sel_l, top, zip2}

one_more : (b : Bool) (m n : ℕ) → eqb (cond b 1 0 + 2 * m) (2 ^ suc n - 1) ≡ (b && eqb m (2 ^ n - 1))
one_more false m n = ne_eqb _ _ (λ e. omega (arith, two-pow-succ n, one-le-pow n 2 (omega arith)))
one_more true m n =
    let next = two-pow-succ n in
    let some = one-le-pow n 2 (omega arith) in
    elim (cases_eq m (2 ^ n - 1)) [
      | inl same ↦ eq-eqb _ _ (omega arith) ∙ sym (eq-eqb _ _ same)
      | inr other ↦ ne_eqb _ _ (λ e. other (omega arith)) ∙ sym (ne_eqb _ _ other)
    ]

-- the mask of lanes that all pass
all_set : (p : ℕ → Bool) (v : List ℕ) → eqb (mask_l (map p v)) (2 ^ length v - 1) ≡ list_all p v
all_set p [] = refl
all_set p (x ∷ xs) = one_more (p x) (mask_l (map p xs)) (length xs) ∙ ap (λ b. p x && b) (all_set p xs)

all_agree : (p q : ℕ → Bool) (v : List ℕ) → Each1 (Fits w8) v → agree_below p q 256 ≡ true → list_all p v ≡ list_all q v
all_agree p q [] fits e = refl
all_agree p q (x ∷ xs) fits e = λ i. agree_below_at p q 256 x e fits.0.fits i && all_agree p q xs fits.1 e i

-- whether each of n lanes is below a number
pub all_below_number : (v : List ℕ) (n y : ℕ) → length v ≡ n → n ≤ 64
    → eqb (mask_l (map (top 7) (zip2 (λ a b. cond (ltb a b) 255 0) v (replicate n y))) % 2 ^ 64) (2 ^ n - 1) ≡ list_all (λ x. ltb x y) v
all_below_number v n y long few =
    ap (λ m. eqb m (2 ^ n - 1)) (bitmask_splat w8 ltb v n y long few) ∙ ap (λ k. eqb (mask_l (map (λ x. ltb x y) v)) (2 ^ k - 1)) (sym long)
    ∙ all_set (λ x. ltb x y) v

-- whether each of n lanes is set tells whether each byte passes q
pub all_pass : (q : ℕ → Bool) (v z : List ℕ) (n : ℕ) → length v ≡ n → n ≤ 64 → Each1 (Fits w8) v → (f : ℕ → ℕ) → z ≡ map f v
    → agree_below (λ x. top 7 (f x)) q 256 ≡ true → eqb (mask_l (map (top 7) z) % 2 ^ 64) (2 ^ n - 1) ≡ list_all q v
all_pass q v z n long few fits f lanes all =
    let p = λ (x : ℕ). top 7 (f x) in
    let mask = ap (λ l. mask_l l % 2 ^ 64) (ap (map (top 7)) lanes ∙ map-map (top 7) f v) ∙ mask_l-mod (map p v) 64 (omega (arith, length-map v p)) in
    ap (λ m. eqb m (2 ^ n - 1)) mask ∙ ap (λ k. eqb (mask_l (map p v)) (2 ^ k - 1)) (sym long) ∙ all_set p v ∙ all_agree p q v fits all

choice : (t : ℕ → Bool) (f g : ℕ → ℕ) (v : List ℕ) → sel_l (map t v) (map f v) (map g v) ≡ map (λ x. cond (t x) (f x) (g x)) v
choice t f g [] = refl
choice t f g (x ∷ xs) = ap (λ l. cond (t x) (f x) (g x) ∷ l) (choice t f g xs)

same_value : (b : Bool) (x y : ℕ) → b ≡ true → (not b || eqb x y) ≡ true → x ≡ y
same_value true x y e h = eqb-true x y h
same_value false x y e h = absurd (cc)

map_agree : (p : ℕ → Bool) (f g : ℕ → ℕ) (v : List ℕ) → Each1 (Fits w8) v → list_all p v ≡ true
    → agree_below (λ x. not (p x) || eqb (f x) (g x)) (λ _. true) 256 ≡ true → map f v ≡ map g v
map_agree p f g [] fits pass e = refl
map_agree p f g (x ∷ xs) fits pass e =
    let parts = and_parts (p x) (list_all p xs) pass in
    let here = same_value (p x) (f x) (g x) parts.0 (agree_below_at (λ x. not (p x) || eqb (f x) (g x)) (λ _. true) 256 x e fits.0.fits) in
    λ i. here i ∷ map_agree p f g xs fits.1 parts.1 e i

-- a choice between two vectors
pub selected : (v : List ℕ) (m f g : ℕ → ℕ) {ms xs ys : List ℕ} → ms ≡ map m v → xs ≡ map f v → ys ≡ map g v
    → sel_l (map (top 7) ms) xs ys ≡ map (λ x. cond (top 7 (m x)) (f x) (g x)) v
selected v m f g em ef eg =
    (λ i. sel_l (map (top 7) (em i)) (ef i) (eg i)) ∙ ap (λ l. sel_l l (map f v) (map g v)) (map-map (top 7) m v) ∙ choice (λ x. top 7 (m x)) f g v

-- the same, at bytes that pass
pub chosen : (p : ℕ → Bool) (h : ℕ → ℕ) (v : List ℕ) → Each1 (Fits w8) v → list_all p v ≡ true → (m f g : ℕ → ℕ) {ms xs ys : List ℕ} → ms ≡ map m v → xs ≡ map f v → ys ≡ map g v
    → agree_below (λ x. not (p x) || eqb (cond (top 7 (m x)) (f x) (g x)) (h x)) (λ _. true) 256 ≡ true → sel_l (map (top 7) ms) xs ys ≡ map h v
chosen p h v fits pass m f g em ef eg all =
    selected v m f g em ef eg ∙ map_agree p (λ x. cond (top 7 (m x)) (f x) (g x)) h v fits pass all

-- and which bytes pass, by a test of what is chosen
pub chosen_pass : (p q : ℕ → Bool) (v : List ℕ) → Each1 (Fits w8) v → (m f g : ℕ → ℕ) {ms xs ys : List ℕ} → ms ≡ map m v → xs ≡ map f v → ys ≡ map g v
    → agree_below (λ x. p (cond (top 7 (m x)) (f x) (g x))) q 256 ≡ true → list_all p (sel_l (map (top 7) ms) xs ys) ≡ list_all q v
chosen_pass p q v fits m f g em ef eg all =
    let h = λ (x : ℕ). cond (top 7 (m x)) (f x) (g x) in
    ap (list_all p) (selected v m f g em ef eg) ∙ list_all-map p h v ∙ all_agree (λ x. p (h x)) q v fits all

-- BOTH HALVES OF A VECTOR AT ONCE

both_small : (x y : ℕ) → is_small (bit_or x y) ≡ (is_small x && is_small y)
both_small x y = go (is_small x) (is_small y) refl refl
  where
    go : (a b : Bool) → is_small x ≡ a → is_small y ≡ b → is_small (bit_or x y) ≡ (a && b)
    go true true ex ey = lt-ltb _ _ (or_lt 4 x y (ltb-true _ _ ex) (ltb-true _ _ ey))
    go true false ex ey = le-ltb _ _ (omega (arith, le_or_r x y, ltb-false _ _ ey))
    go false b ex ey = le-ltb _ _ (omega (arith, le_or_l x y, ltb-false _ _ ex))

by_pairs : (a b c d : Bool) → ((a && b) && (c && d)) ≡ ((a && c) && (b && d))
by_pairs true true c d = refl
by_pairs true false true d = refl
by_pairs true false false d = refl
by_pairs false b c d = refl

all_or : (xs ys : List ℕ) → length xs ≡ length ys → list_all is_small (zip2 bit_or xs ys) ≡ (list_all is_small xs && list_all is_small ys)
all_or [] [] e = refl
all_or [] (y ∷ ys) e = absurd (omega arith)
all_or (x ∷ xs) [] e = absurd (omega arith)
all_or (x ∷ xs) (y ∷ ys) e =
    (λ i. both_small x y i && all_or xs ys (omega arith) i) ∙ by_pairs (is_small x) (is_small y) (list_all is_small xs) (list_all is_small ys)

-- the bits of both halves
abbrev pub halves : ℕ → List ℕ → List ℕ
halves n v = zip2 bit_or (pick_l 0 (v ++ v) (range_with_len 0 n)) (pick_l 0 (v ++ v) (range_with_len n n))

-- are small where all lanes are
pub halves_small : (n : ℕ) (v : List ℕ) → length v ≡ n + n → T (all_below (n + n) (range_with_len 0 n)) → T (all_below (n + n) (range_with_len n n))
    → list_all is_small (halves n v) ≡ list_all is_small v
halves_small n v long a b =
    let first : pick_l 0 (v ++ v) (range_with_len 0 n) ≡ take n v = pick_l_left 0 v v (n + n) (range_with_len 0 n) long a ∙ pick_l-range_with_len 0 v 0 n (omega arith) in
    let second : pick_l 0 (v ++ v) (range_with_len n n) ≡ drop n v =
    pick_l_left 0 v v (n + n) (range_with_len n n) long b ∙ pick_l-range_with_len 0 v n n (omega arith) ∙ take_all n (drop n v) (omega (arith, length-drop n v)) in
    (λ i. list_all is_small (zip2 bit_or (first i) (second i)))
    ∙ all_or (take n v) (drop n v) (omega (arith, length-take-le n v (omega arith), length-drop n v))
    ∙ sym (list_all-append is_small (take n v) (drop n v)) ∙ ap (list_all is_small) (take-append-drop n v)
