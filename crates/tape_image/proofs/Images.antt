-- Whole images: one reading each, and what more bytes add to it.
use Rattle.std.proofs.Common.{◌≡◌, ℕ, zero, suc, ◌+◌, ◌≤◌, ◌<◌, List, [], ◌∷◌, ◌++◌, length, take, drop, refl, sym, ap, subst, ◌∙◌, length-drop, arith}
use Rattle.std.proofs.lemmas.List.{drop-append-le, take-append-drop}
use Rattle.tape_medium.specs.Object.{Object}
use Rattle.tape_image.specs.declared.fault.ImageFault.{ImageFault}
use Rattle.tape_image.specs.Parts.{PartValue, Partial, Complete, Gap, End, Invalid, IsKnown, image_part}
use Rattle.tape_image.specs.Reading.{Placed, Stop, Waiting, Ended, Broken, Reads, partial, ended, faulty, gap, object, GoesOn}
use Rattle.tape_image.proofs.Parts.{part_stays, IsSome, is_some}

-- ---- one reading

at_partial : (o : ℕ) (b : List ℕ) (ys : List Placed) (t : Stop) (w : ℕ) → Reads o b ys t → image_part b ≡ Partial w → (ys ≡ []) × (t ≡ Waiting o b)
at_partial _ _ _ _ w (partial o b v e) d = (refl, refl)
at_partial _ _ _ _ w (ended o b e) d = absurd cc
at_partial _ _ _ _ w (faulty o b f e) d = absurd cc
at_partial _ _ _ _ w (gap o b others stop e more) d = absurd cc
at_partial _ _ _ _ w (object o b x n others stop e more) d = absurd cc

at_end : (o : ℕ) (b : List ℕ) (ys : List Placed) (t : Stop) → Reads o b ys t → image_part b ≡ End → (ys ≡ []) × (t ≡ Ended o)
at_end _ _ _ _ (partial o b v e) d = absurd cc
at_end _ _ _ _ (ended o b e) d = (refl, refl)
at_end _ _ _ _ (faulty o b f e) d = absurd cc
at_end _ _ _ _ (gap o b others stop e more) d = absurd cc
at_end _ _ _ _ (object o b x n others stop e more) d = absurd cc

at_fault : (o : ℕ) (b : List ℕ) (ys : List Placed) (t : Stop) (f : ImageFault) → Reads o b ys t → image_part b ≡ Invalid f → (ys ≡ []) × (t ≡ Broken o f)
at_fault _ _ _ _ f (partial o b v e) d = absurd cc
at_fault _ _ _ _ f (ended o b e) d = absurd cc
at_fault _ _ _ _ f (faulty o b g e) d = let same : g ≡ f = cc in (refl, ap (λ (h : ImageFault). Broken o h) same)
at_fault _ _ _ _ f (gap o b others stop e more) d = absurd cc
at_fault _ _ _ _ f (object o b x n others stop e more) d = absurd cc

at_gap : (o : ℕ) (b : List ℕ) (ys : List Placed) (t : Stop) → Reads o b ys t → image_part b ≡ Gap → Reads (o + 4) (drop 4 b) ys t
at_gap _ _ _ _ (partial o b v e) d = absurd cc
at_gap _ _ _ _ (ended o b e) d = absurd cc
at_gap _ _ _ _ (faulty o b f e) d = absurd cc
at_gap _ _ _ _ (gap o b others stop e more) d = more
at_gap _ _ _ _ (object o b x n others stop e more) d = absurd cc

same_whole : (x y : Object) (n m : ℕ) → Complete x n ≡ Complete y m → (x ≡ y) × (n ≡ m)
same_whole x y n m e = (cc, cc)

abbrev pub one : ℕ → Object → Placed
one o x = record { offset = o; object = x }

at_object : (o : ℕ) (b : List ℕ) (ys : List Placed) (t : Stop) (x : Object) (n : ℕ) → Reads o b ys t → image_part b ≡ Complete x n
    → (others : List Placed) × (ys ≡ one o x ∷ others) × Reads (o + n) (drop n b) others t
at_object _ _ _ _ x n (partial o b v e) d = absurd cc
at_object _ _ _ _ x n (ended o b e) d = absurd cc
at_object _ _ _ _ x n (faulty o b f e) d = absurd cc
at_object _ _ _ _ x n (gap o b others stop e more) d = absurd cc
at_object _ _ _ _ x n (object o b y m others stop e more) d =
    let same = same_whole y x m n (sym e ∙ d) in
    (others, ap (λ (z : Object). one o z ∷ others) same.0, subst (λ (k : ℕ). Reads (o + k) (drop k b) others stop) same.1 more)

-- the objects of an image are these and no others
pub one_reading : (o : ℕ) (b : List ℕ) (xs : List Placed) (s : Stop) → Reads o b xs s → (ys : List Placed) (t : Stop) → Reads o b ys t → (xs ≡ ys) × (s ≡ t)
one_reading _ _ _ _ (partial o b w e) ys t r = let h = at_partial o b ys t w r e in (sym h.0, sym h.1)
one_reading _ _ _ _ (ended o b e) ys t r = let h = at_end o b ys t r e in (sym h.0, sym h.1)
one_reading _ _ _ _ (faulty o b f e) ys t r = let h = at_fault o b ys t f r e in (sym h.0, sym h.1)
one_reading _ _ _ _ (gap o b others stop e more) ys t r = one_reading (o + 4) (drop 4 b) others stop more ys t (at_gap o b ys t r e)
one_reading _ _ _ _ (object o b x n others stop e more) ys t r =
    let h = at_object o b ys t x n r e in
    let k = one_reading (o + n) (drop n b) others stop more h.0 t h.2 in
    (ap (λ (zs : List Placed). one o x ∷ zs) k.0 ∙ sym h.1, k.1)

-- ---- each image has one

pub known_some : (b : List ℕ) (p : PartValue) → image_part b ≡ p → IsSome (length b) p
known_some b p e = subst (IsSome (length b)) e (is_some b)

step_reads : (o : ℕ) (b : List ℕ) (p : PartValue) → image_part b ≡ p
    → ((k n : ℕ) → 4 ≤ n → n ≤ length b → (ys : List Placed) × (t : Stop) × Reads k (drop n b) ys t)
    → (ys : List Placed) × (t : Stop) × Reads o b ys t
step_reads o b (Partial w) e more = ([], Waiting o b, partial o b w e)
step_reads o b End e more = ([], Ended o, ended o b e)
step_reads o b (Invalid f) e more = ([], Broken o f, faulty o b f e)
step_reads o b Gap e more =
    let some = known_some b Gap e in
    let h = more (o + 4) 4 (omega arith) some in
    (h.0, h.1, gap o b h.0 h.1 e h.2)
step_reads o b (Complete x n) e more =
    let some = known_some b (Complete x n) e in
    let h = more (o + n) n some.0 some.1 in
    (one o x ∷ h.0, h.1, object o b x n h.0 h.1 e h.2)

reads_short : (fuel : ℕ) (o : ℕ) (b : List ℕ) → length b < fuel → (ys : List Placed) × (t : Stop) × Reads o b ys t
reads_short zero o b short = absurd (omega arith)
reads_short (suc fuel) o b short =
    step_reads o b (image_part b) refl (λ k n least most. reads_short fuel k (drop n b) (omega (arith, length-drop n b)))

pub each_reads : (o : ℕ) (b : List ℕ) → (ys : List Placed) × (t : Stop) × Reads o b ys t
each_reads o b = reads_short (suc (length b)) o b (omega arith)

-- ---- more bytes

pub stays : (b more : List ℕ) (p : PartValue) → image_part b ≡ p → IsKnown p → image_part (b ++ more) ≡ p
stays b more p e known = part_stays b more (subst IsKnown (sym e) known) ∙ e

-- what was read is read again, and then what the rest and more bytes give
pub joined : (o : ℕ) (b : List ℕ) (xs : List Placed) (s : Stop) → Reads o b xs s → (more : List ℕ) (ys : List Placed) (t : Stop) → GoesOn s more ys t
    → Reads o (b ++ more) (xs ++ ys) t
joined _ _ _ _ (partial o b w e) more ys t r = r
joined _ _ _ _ (ended o b e) more ys t r = rw (r.0, r.1) (ended o (b ++ more) (stays b more End e tt))
joined _ _ _ _ (faulty o b f e) more ys t r = rw (r.0, r.1) (faulty o (b ++ more) f (stays b more (Invalid f) e tt))
joined _ _ _ _ (gap o b others stop e rest) more ys t r =
    let some = known_some b Gap e in
    gap o (b ++ more) (others ++ ys) t (stays b more Gap e tt)
    (rw (drop-append-le 4 b more some) (joined (o + 4) (drop 4 b) others stop rest more ys t r))
joined _ _ _ _ (object o b x n others stop e rest) more ys t r =
    let some = known_some b (Complete x n) e in
    object o (b ++ more) x n (others ++ ys) t (stays b more (Complete x n) e tt)
    (rw (drop-append-le n b more some.1) (joined (o + n) (drop n b) others stop rest more ys t r))

goes_on : (s : Stop) (more : List ℕ) → (ys : List Placed) × (t : Stop) × GoesOn s more ys t
goes_on (Waiting o rest) more = each_reads o (rest ++ more)
goes_on (Ended o) more = ([], Ended o, (refl, refl))
goes_on (Broken o f) more = ([], Broken o f, (refl, refl))

-- a beginning of an image holds a beginning of its objects
pub beginning : (o n : ℕ) (b : List ℕ) (xs ys : List Placed) (s t : Stop) → Reads o b xs s → Reads o (take n b) ys t → (others : List Placed) × (xs ≡ ys ++ others)
beginning o n b xs ys s t r q =
    let h = goes_on t (drop n b) in
    let all : Reads o (take n b ++ drop n b) (ys ++ h.0) h.1 = joined o (take n b) ys t q (drop n b) h.0 h.1 h.2 in
    let back : Reads o b (ys ++ h.0) h.1 = subst (λ (zs : List ℕ). Reads o zs (ys ++ h.0) h.1) (take-append-drop n b) all in
    (h.0, (one_reading o b xs s r (ys ++ h.0) h.1 back).0)
