-- What bytes hold, joined and cut.
use Rattle.std.proofs.Common.{◌≡◌, inl, inr, ℕ, ◌+◌, ◌≤◌, zero, suc, Bool, true, false, cond, List, [], ◌∷◌, ◌++◌, length, take, drop, map, get_or, refl, sym, ap, subst, ◌∙◌, append_assoc, length-append, arith}
use Rattle.std.proofs.lemmas.List.{append-nil, map-append}
use Rattle.std.specs.Prelude.{nat_le}
use Rattle.std.proofs.lemmas.Bool.{le-leb}
use Rattle.std.proofs.lemmas.Bool.Decides.{leb_tells}
use Rattle.std.proofs.lemmas.List.Sums.{take_while-cons}
use Rattle.tape_medium.specs.Object.{Object}
use Rattle.tape_image.specs.Images.{object_bytes, image_bytes, AreKeepable}
use Rattle.tape_image.specs.Reading.{Placed, Stop, Waiting, Reads, partial, placed}
use Rattle.tape_image.proofs.Parts.{short_is}
use Rattle.tape_image.proofs.Images.{joined, each_reads, beginning}
use Rattle.tape_image.proofs.Cuts.{image_whole}
use Rattle.tape_flush.specs.Saved.{ends_within}
use Rattle.tape_flush.specs.Images.{ends_from, object_in, HoldsOne, HoldsAll, HoldsFirst}

-- where the first so many objects end, from an offset on
abbrev pub end_from : ℕ → List ℕ → ℕ → ℕ
end_from o es n = get_or (o ∷ es) n 0

pub holds_nothing : (o : ℕ) → Reads o [] [] (Waiting o [])
holds_nothing o = partial o [] 4 (short_is [] (omega arith))

pub same_count : (o : ℕ) (b : List ℕ) (xs : List Object) (es : List ℕ) → HoldsAll o b xs es → length es ≡ length xs
same_count o b [] [] h = refl
same_count o b [] (e ∷ es) h = absurd h
same_count o b (x ∷ xs) [] h = absurd h
same_count o b (x ∷ xs) (e ∷ es) h = ap suc (same_count e h.1 xs es h.5)

-- the first of them, and the others
pub record Split (o n : ℕ) (b : List ℕ) (xs : List Object) (es : List ℕ) : Type 0 where
  pub front : List ℕ
  pub back : List ℕ
  pub bytes : b ≡ front ++ back
  pub end : o + length front ≡ end_from o es n
  pub first : HoldsAll o front (take n xs) (take n es)
  pub others : HoldsAll (o + length front) back (drop n xs) (drop n es)

split_none : (o : ℕ) (b : List ℕ) (xs : List Object) (es : List ℕ) → HoldsAll o b xs es → Split o 0 b xs es
split_none o b xs es h =
    let e : o ≡ o + length {A = ℕ} [] = omega arith in
    record { front = []; back = b; bytes = refl; end = sym e; first = refl; others = subst (λ (k : ℕ). HoldsAll k b xs es) e h }

split_on : (o end n : ℕ) (part rest : List ℕ) (x : Object) (xs : List Object) (es : List ℕ) → end ≡ o + length part → HoldsOne o end part x
    → Split end n rest xs es → Split o (suc n) (part ++ rest) (x ∷ xs) (end ∷ es)
split_on o end n part rest x xs es is one s =
    let size : o + length (part ++ s.front) ≡ end + length s.front = omega (arith, length-append part s.front) in
    record {
      front = part ++ s.front;
      back = s.back;
      bytes = ap (λ (b : List ℕ). part ++ b) s.bytes ∙ sym (append_assoc part s.front s.back);
      end = size ∙ s.end;
      first = (part, s.front, refl, is, one, s.first);
      others = subst (λ (k : ℕ). HoldsAll k s.back (drop n xs) (drop n es)) (sym size) s.others;
    }

pub split : (n o : ℕ) (b : List ℕ) (xs : List Object) (es : List ℕ) → HoldsAll o b xs es → n ≤ length xs → Split o n b xs es
split zero o b xs es h within = split_none o b xs es h
split (suc n) o b [] es h within = absurd (omega arith)
split (suc n) o b (x ∷ xs) [] h within = absurd h
split (suc n) o b (x ∷ xs) (e ∷ es) h within =
    subst (λ (c : List ℕ). Split o (suc n) c (x ∷ xs) (e ∷ es)) (sym h.2)
    (split_on o e n h.0 h.1 x xs es h.3 h.4 (split n e h.1 xs es h.5 (omega arith)))

pub join : (o : ℕ) (b c : List ℕ) (xs ys : List Object) (es ds : List ℕ) → HoldsAll o b xs es → HoldsAll (o + length b) c ys ds → HoldsAll o (b ++ c) (xs ++ ys) (es ++ ds)
join o b c [] ys [] ds h more =
    let none : o + length b ≡ o = omega (arith, ap length h) in
    subst (λ (k : ℕ). HoldsAll k (b ++ c) ys ds) none (subst (λ (z : List ℕ). HoldsAll (o + length b) (z ++ c) ys ds) (sym h) more)
join o b c [] ys (e ∷ es) ds h more = absurd h
join o b c (x ∷ xs) ys [] ds h more = absurd h
join o b c (x ∷ xs) ys (e ∷ es) ds h more =
    let size : o + length b ≡ e + length h.1 = omega (arith, ap length h.2, length-append h.0 h.1, h.3) in (
      h.0,
      h.1 ++ c,
      ap (λ (z : List ℕ). z ++ c) h.2 ∙ append_assoc h.0 h.1 c,
      h.3,
      h.4,
      join e h.1 c xs ys es ds h.5 (subst (λ (k : ℕ). HoldsAll k c ys ds) size more),
    )

one_written : (o : ℕ) (x : Object) → AreKeepable (x ∷ []) → HoldsOne o (o + length (object_bytes x)) (object_bytes x) x
one_written o x can =
    (o, subst (λ (b : List ℕ). Reads o b (placed o (x ∷ [])) (Waiting (o + length b) [])) (append-nil (object_bytes x)) (image_whole o (x ∷ []) can))

-- they take as many bytes as the last of their ends says
pub holds_length : (o : ℕ) (b : List ℕ) (xs : List Object) (es : List ℕ) → HoldsAll o b xs es → o + length b ≡ end_from o es (length es)
holds_length o b [] [] h = omega (arith, ap length h)
holds_length o b [] (e ∷ es) h = absurd h
holds_length o b (x ∷ xs) [] h = absurd h
holds_length o b (x ∷ xs) (e ∷ es) h =
    let size : o + length b ≡ e + length h.1 = omega (arith, ap length h.2, length-append h.0 h.1, h.3) in
    size ∙ holds_length e h.1 xs es h.5

-- of some ends those within so many bytes
within_step : (size e : ℕ) (es : List ℕ) (is : Bool) → nat_le e size ≡ is → ends_within size (e ∷ es) ≡ cond is (e ∷ ends_within size es) []
within_step size e es is same = take_while-cons (λ end. nat_le end size) e es ∙ ap (λ (b : Bool). cond b (e ∷ ends_within size es) []) same

pub within_is_first : (size : ℕ) (es : List ℕ) → ends_within size es ≡ take (length (ends_within size es)) es
within_is_first size [] = refl
within_is_first size (e ∷ es) = elim (leb_tells e size) [
  | inl is ↦ (
      let here : ends_within size (e ∷ es) ≡ e ∷ ends_within size es = within_step size e es true is.0 in
      here ∙ ap (λ (ds : List ℕ). e ∷ ds) (within_is_first size es) ∙ ap (λ (n : ℕ). take n (e ∷ es)) (sym (ap length here))
      )
  | inr is ↦ (
      let here : ends_within size (e ∷ es) ≡ [] = within_step size e es false is.0 in
      here ∙ ap (λ (n : ℕ). take n (e ∷ es)) (sym (ap length here))
      )
]

-- the last of them is
pub within_ends : (o size : ℕ) (es : List ℕ) → o ≤ size → end_from o es (length (ends_within size es)) ≤ size
within_ends o size [] le = le
within_ends o size (e ∷ es) le = elim (leb_tells e size) [
  | inl is ↦ (
      let here : length (ends_within size (e ∷ es)) ≡ suc (length (ends_within size es)) = ap length (within_step size e es true is.0) in
      let P : ℕ → Type 0 = λ n. end_from o (e ∷ es) n ≤ size in
      subst P (sym here) (within_ends e size es is.1)
      )
  | inr is ↦ (
      let here : length (ends_within size (e ∷ es)) ≡ 0 = ap length (within_step size e es false is.0) in
      let P : ℕ → Type 0 = λ n. end_from o (e ∷ es) n ≤ size in
      subst P (sym here) le
      )
]

-- all of them, where the objects take no more
pub all_within : (o size : ℕ) (b : List ℕ) (xs : List Object) (es : List ℕ) → HoldsAll o b xs es → o + length b ≤ size → ends_within size es ≡ es
all_within o size b [] [] h le = refl
all_within o size b [] (e ∷ es) h le = absurd h
all_within o size b (x ∷ xs) [] h le = absurd h
all_within o size b (x ∷ xs) (e ∷ es) h le =
    let whole : o + length b ≡ e + length h.1 = omega (arith, ap length h.2, length-append h.0 h.1, h.3) in
    within_step size e es true (le-leb e size (omega (arith, whole)))
    ∙ ap (λ (ds : List ℕ). e ∷ ds) (all_within e size h.1 xs es h.5 (omega (arith, whole)))

pub end_in_first : (o n m : ℕ) (es : List ℕ) → n ≤ m → end_from o (take m es) n ≡ end_from o es n
end_in_first o zero m es le = refl
end_in_first o (suc n) zero es le = absurd (omega arith)
end_in_first o (suc n) (suc m) [] le = refl
end_in_first o (suc n) (suc m) (e ∷ es) le = end_in_first e n m es (omega arith)

-- objects that were written
pub written : (o : ℕ) (xs : List Object) → AreKeepable xs → HoldsAll o (image_bytes xs) xs (ends_from o xs)
written o [] can = refl
written o (x ∷ xs) can =
    (object_bytes x, image_bytes xs, refl, refl, one_written o x (can.0, tt), written (o + length (object_bytes x)) xs can.1)

-- and what is read behind them
pub record ReadsOn (o : ℕ) (b : List ℕ) (xs : List Object) (others : List Placed) (stop : Stop) : Type 0 where
  pub found : List Placed
  pub reads : Reads o b (found ++ others) stop
  pub are : map object_in found ≡ xs

pub reads_on : (o : ℕ) (b : List ℕ) (xs : List Object) (es : List ℕ) (rest : List ℕ) (others : List Placed) (stop : Stop) → HoldsAll o b xs es
    → Reads (o + length b) rest others stop → ReadsOn o (b ++ rest) xs others stop
reads_on o b [] [] rest others stop h more =
    let none : o + length b ≡ o = omega (arith, ap length h) in
    record { found = []; reads = subst (λ (z : List ℕ). Reads o (z ++ rest) others stop) (sym h) (subst (λ (k : ℕ). Reads k rest others stop) none more); are = refl }
reads_on o b [] (e ∷ es) rest others stop h more = absurd h
reads_on o b (x ∷ xs) [] rest others stop h more = absurd h
reads_on o b (x ∷ xs) (e ∷ es) rest others stop h more =
    let size : o + length b ≡ e + length h.1 = omega (arith, ap length h.2, length-append h.0 h.1, h.3) in
    let behind : ReadsOn e (h.1 ++ rest) xs others stop = reads_on e h.1 xs es rest others stop h.5 (subst (λ (k : ℕ). Reads k rest others stop) size more) in
    let first : Placed = record { offset = h.4.0; object = x } in
    let bytes : b ++ rest ≡ h.0 ++ (h.1 ++ rest) = ap (λ (z : List ℕ). z ++ rest) h.2 ∙ append_assoc h.0 h.1 rest in
    record {
      found = first ∷ behind.found;
      reads = subst (λ (z : List ℕ). Reads o z (first ∷ (behind.found ++ others)) stop) (sym bytes)
          (joined o h.0 (first ∷ []) (Waiting e []) h.4.1 (h.1 ++ rest) (behind.found ++ others) stop behind.reads);
      are = ap (λ (ys : List Object). x ∷ ys) behind.are;
    }

-- THE FIRST OBJECTS

pub first_of_none : (o : ℕ) (xs : List Object) → HoldsFirst o [] xs
first_of_none o xs = ([], Waiting o [], xs, holds_nothing o, refl)

-- cut
pub first_cut : (o n : ℕ) (b : List ℕ) (xs : List Object) → HoldsFirst o b xs → HoldsFirst o (take n b) xs
first_cut o n b xs h =
    let r = each_reads o (take n b) in
    let more = beginning o n b h.0 r.0 h.1 r.1 h.3 r.2 in (
      r.0,
      r.1,
      map object_in more.0 ++ h.2,
      r.2,
      sym (append_assoc (map object_in r.0) (map object_in more.0) h.2)
          ∙ ap (λ (ys : List Object). ys ++ h.2) (sym (map-append object_in r.0 more.0) ∙ ap (map object_in) (sym more.1))
          ∙ h.4,
    )

-- behind objects that are all there
pub first_behind : (o : ℕ) (b tail : List ℕ) (xs ys : List Object) (es : List ℕ) → HoldsAll o b xs es → HoldsFirst (o + length b) tail ys → HoldsFirst o (b ++ tail) (xs ++ ys)
first_behind o b tail xs ys es h first =
    let on : ReadsOn o (b ++ tail) xs first.0 first.1 = reads_on o b xs es tail first.0 first.1 h first.3 in (
      on.found ++ first.0,
      first.1,
      first.2,
      on.reads,
      ap (λ (zs : List Object). zs ++ first.2) (map-append object_in on.found first.0)
          ∙ append_assoc (map object_in on.found) (map object_in first.0) first.2
          ∙ ap (λ (zs : List Object). zs ++ (map object_in first.0 ++ first.2)) on.are
          ∙ ap (λ (zs : List Object). xs ++ zs) first.4,
    )

-- of objects that were written and cut
objects_placed : (o : ℕ) (xs : List Object) → map object_in (placed o xs) ≡ xs
objects_placed o [] = refl
objects_placed o (x ∷ xs) = ap (λ (ys : List Object). x ∷ ys) (objects_placed (o + length (object_bytes x)) xs)

pub first_written : (o n : ℕ) (xs : List Object) → AreKeepable xs → HoldsFirst o (take n (image_bytes xs)) xs
first_written o n xs can =
    first_cut o n (image_bytes xs) xs
    (placed o xs, Waiting (o + length (image_bytes xs)) [], [], image_whole o xs can, append-nil (map object_in (placed o xs)) ∙ objects_placed o xs)
