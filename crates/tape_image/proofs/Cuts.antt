-- Images that were written, whole and cut.
use Rattle.std.proofs.Common.{◌≡◌, ℕ, ◌+◌, ◌-◌, ◌≤◌, ◌<◌, true, false, leb, eqb, inl, inr, List, [], ◌∷◌, ◌++◌, length, take, drop, refl, sym, ap, subst, ◌∙◌, append_assoc, length-append, length-drop, arith}
use Rattle.std.proofs.lemmas.Bool.{cases_lt, le-leb, lt-leb, eq-eqb, ne_eqb}
use Rattle.std.proofs.lemmas.List.{append-nil, length-take, length-take-le}
use Rattle.std.proofs.Math.Seq.{take-append-add, drop-append-add, drop-append_seam}
use Rattle.tape_medium.specs.Object.{Object}
use Rattle.tape_image.specs.Images.{object_bytes, image_bytes, IsKeepable, AreKeepable}
use Rattle.tape_image.specs.Reading.{Placed, Stop, Waiting, Reads, partial, object, placed, whole_within, image_end, cut_end, cut_stop}
use Rattle.tape_image.proofs.Images.{one}
use Rattle.tape_image.proofs.Parts.{short_is}
use Rattle.tape_image.proofs.Written.{object_again, object_cut}

-- an object that was written, and what is read behind it
pub object_first : (o : ℕ) (x : Object) (rest : List ℕ) (others : List Placed) (stop : Stop) → IsKeepable x
    → Reads (o + length (object_bytes x)) rest others stop → Reads o (object_bytes x ++ rest) (one o x ∷ others) stop
object_first o x rest others stop can more =
    object o (object_bytes x ++ rest) x (length (object_bytes x)) others stop (object_again x rest can)
    (subst (λ (zs : List ℕ). Reads (o + length (object_bytes x)) zs others stop) (sym (drop-append_seam (object_bytes x) rest)) more)

-- objects that were written, and what is read behind them
pub image_first : (o : ℕ) (xs : List Object) (rest : List ℕ) (others : List Placed) (stop : Stop) → AreKeepable xs
    → Reads (o + length (image_bytes xs)) rest others stop → Reads o (image_bytes xs ++ rest) (placed o xs ++ others) stop
image_first o [] rest others stop can more = subst (λ (k : ℕ). Reads k rest others stop) (omega arith) more
image_first o (x ∷ xs) rest others stop can more =
    let size : o + length (image_bytes (x ∷ xs)) ≡ o + length (object_bytes x) + length (image_bytes xs) = omega (arith, length-append (object_bytes x) (image_bytes xs)) in
    let behind = image_first (o + length (object_bytes x)) xs rest others stop can.1 (subst (λ (k : ℕ). Reads k rest others stop) size more) in
    rw (append_assoc (object_bytes x) (image_bytes xs) rest) (object_first o x (image_bytes xs ++ rest) (placed (o + length (object_bytes x)) xs ++ others) stop can.0 behind)

pub image_whole : (o : ℕ) (xs : List Object) → AreKeepable xs → Reads o (image_bytes xs) (placed o xs) (Waiting (o + length (image_bytes xs)) [])
image_whole o xs can =
    let all = image_first o xs [] [] (Waiting (o + length (image_bytes xs)) []) can (partial (o + length (image_bytes xs)) [] 4 (short_is [] (omega arith))) in
    rw (append-nil (image_bytes xs), append-nil (placed o xs)) at all

within_in : (x : Object) (xs : List Object) (n : ℕ) → length (object_bytes x) ≤ n → whole_within n (x ∷ xs) ≡ x ∷ whole_within (n - length (object_bytes x)) xs
within_in x xs n long = let here : leb (length (object_bytes x)) n ≡ true = le-leb _ _ long in rw here refl

within_out : (x : Object) (xs : List Object) (n : ℕ) → n < length (object_bytes x) → whole_within n (x ∷ xs) ≡ []
within_out x xs n short = let here : leb (length (object_bytes x)) n ≡ false = lt-leb _ _ short in rw here refl

abbrev pub Cut : ℕ → ℕ → List Object → List Object → Type 0
Cut o n xs fs = Reads o (take n (image_bytes xs)) (placed o fs) (Waiting (o + length (image_bytes fs)) (drop (length (image_bytes fs)) (take n (image_bytes xs))))

cut_first : (o n : ℕ) (x : Object) (xs : List Object) → IsKeepable x → n < length (object_bytes x) → Cut o n (x ∷ xs) []
cut_first o n x xs can short =
    let h = object_cut x (image_bytes xs) n can short in
    let none : o ≡ o + 0 = omega arith in
    subst (λ (k : ℕ). Reads o (take n (object_bytes x ++ image_bytes xs)) [] (Waiting k (take n (object_bytes x ++ image_bytes xs)))) none
    (partial o (take n (object_bytes x ++ image_bytes xs)) h.0 h.1)

cut_behind : (o m : ℕ) (x : Object) (xs fs : List Object) → IsKeepable x → Cut (o + length (object_bytes x)) m xs fs → Cut o (length (object_bytes x) + m) (x ∷ xs) (x ∷ fs)
cut_behind o m x xs fs can r =
    let bytes : take (length (object_bytes x) + m) (object_bytes x ++ image_bytes xs) ≡ object_bytes x ++ take m (image_bytes xs) = take-append-add (object_bytes x) (image_bytes xs) m in
    let size : length (object_bytes x ++ image_bytes fs) ≡ length (object_bytes x) + length (image_bytes fs) = length-append (object_bytes x) (image_bytes fs) in
    let offset : o + length (object_bytes x ++ image_bytes fs) ≡ o + length (object_bytes x) + length (image_bytes fs) = omega (arith, size) in
    let tail : drop (length (object_bytes x ++ image_bytes fs)) (take (length (object_bytes x) + m) (object_bytes x ++ image_bytes xs)) ≡ drop (length (image_bytes fs)) (take m (image_bytes xs)) =
    ap (λ (k : ℕ). drop k (take (length (object_bytes x) + m) (object_bytes x ++ image_bytes xs))) size
    ∙ ap (drop (length (object_bytes x) + length (image_bytes fs))) bytes
    ∙ drop-append-add (object_bytes x) (take m (image_bytes xs)) (length (image_bytes fs)) in
    let first : Reads o (object_bytes x ++ take m (image_bytes xs)) (one o x ∷ placed (o + length (object_bytes x)) fs)
    (Waiting (o + length (object_bytes x) + length (image_bytes fs)) (drop (length (image_bytes fs)) (take m (image_bytes xs)))) =
    object_first o x (take m (image_bytes xs)) (placed (o + length (object_bytes x)) fs) _ can r in
    rw (offset, tail, bytes) first

no_bytes : (o n : ℕ) → Cut o n [] []
no_bytes o n =
    let none : o ≡ o + 0 = omega arith in
    let size = length-take {A = ℕ} n [] in
    let short : length (take {A = ℕ} n []) < 4 = omega (arith, size) in
    subst (λ (k : ℕ). Reads o (take n []) [] (Waiting k (take n []))) none (partial o (take n []) 4 (short_is (take n []) short))

pub cut : (o n : ℕ) (xs : List Object) → AreKeepable xs → Cut o n xs (whole_within n xs)
cut o n [] can = no_bytes o n
cut o n (x ∷ xs) can = elim (cases_lt n (length (object_bytes x))) [
  | inl short ↦ subst (Cut o n (x ∷ xs)) (sym (within_out x xs n short)) (cut_first o n x xs can.0 short)
  | inr long ↦ (
      let is : length (object_bytes x) + (n - length (object_bytes x)) ≡ n = omega arith in
      let rest = cut (o + length (object_bytes x)) (n - length (object_bytes x)) xs can.1 in
      subst (Cut o n (x ∷ xs)) (sym (within_in x xs n long))
      (subst (λ (k : ℕ). Cut o k (x ∷ xs) (x ∷ whole_within (n - length (object_bytes x)) xs)) is
      (cut_behind o (n - length (object_bytes x)) x xs (whole_within (n - length (object_bytes x)) xs) can.0 rest)))
]

-- how it ends
within_fits : (n : ℕ) (xs : List Object) → length (image_bytes (whole_within n xs)) ≤ n
within_fits n [] = omega arith
within_fits n (x ∷ xs) = elim (cases_lt n (length (object_bytes x))) [
  | inl short ↦ subst (λ (fs : List Object). length (image_bytes fs) ≤ n) (sym (within_out x xs n short)) (omega arith)
  | inr long ↦ (
      let rest = within_fits (n - length (object_bytes x)) xs in
      subst (λ (fs : List Object). length (image_bytes fs) ≤ n) (sym (within_in x xs n long))
      (omega (arith, rest, length-append (object_bytes x) (image_bytes (whole_within (n - length (object_bytes x)) xs)))))
]

tail_ending : (objects n w : ℕ) (tail : List ℕ) → w ≤ n → length tail ≡ n - w → image_end objects (Waiting w tail) ≡ cut_end n w
tail_ending objects n w [] most size = let here : eqb n w ≡ true = eq-eqb _ _ (omega arith) in rw here refl
tail_ending objects n w (byte ∷ tail) most size =
    let here : eqb n w ≡ false = ne_eqb _ _ (λ e. omega (arith, e)) in
    rw (here, size) refl

pub cut_ending : (o n objects : ℕ) (xs : List Object) → n ≤ length (image_bytes xs)
    → image_end objects (cut_stop o n xs) ≡ cut_end (o + n) (o + length (image_bytes (whole_within n xs)))
cut_ending o n objects xs within =
    let tail : length (drop (length (image_bytes (whole_within n xs))) (take n (image_bytes xs))) ≡ n - length (image_bytes (whole_within n xs)) =
    length-drop (length (image_bytes (whole_within n xs))) (take n (image_bytes xs))
    ∙ ap (λ (k : ℕ). k - length (image_bytes (whole_within n xs))) (length-take-le n (image_bytes xs) within) in
    let fits = within_fits n xs in
    tail_ending objects (o + n) (o + length (image_bytes (whole_within n xs))) _ (omega (arith, fits)) (omega (arith, fits, tail))
