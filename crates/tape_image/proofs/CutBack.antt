-- An image is whole up to where reading stops.
use Rattle.std.proofs.Common.{◌≡◌, ℕ, ◌+◌, ◌-◌, ◌≤◌, List, [], ◌++◌, length, take, drop, sym, ap, subst, ◌∙◌, length-drop, arith}
use Rattle.std.proofs.lemmas.List.{drop-take}
use Rattle.tape_medium.specs.Object.{Object}
use Rattle.tape_image.specs.Images.{image_bytes, AreKeepable}
use Rattle.tape_image.specs.Parts.{Complete, Gap}
use Rattle.tape_image.specs.Reading.{Placed, Stop, Waiting, Reads, partial, ended, faulty, gap, object, whole_of, placed, whole_within, cut_stop}
use Rattle.tape_image.proofs.Parts.{short_is}
use Rattle.tape_image.proofs.Images.{known_some, joined}
use Rattle.tape_image.proofs.Fits.{told}
use Rattle.tape_image.proofs.Cuts.{cut}

here : (o : ℕ) (b : List ℕ) → (o ≤ o) × (o - o ≤ length b)
here o b = (omega arith, omega arith)

further : (o n w : ℕ) (b : List ℕ) → n ≤ length b → (o + n ≤ w) × (w - (o + n) ≤ length (drop n b)) → (o ≤ w) × (w - o ≤ length b)
further o n w b within h = (omega (arith, h.0), omega (arith, h.0, h.1, length-drop n b))

pub whole_within_bytes : (o : ℕ) (b : List ℕ) (xs : List Placed) (s : Stop) → Reads o b xs s → (o ≤ whole_of s) × (whole_of s - o ≤ length b)
whole_within_bytes _ _ _ _ (partial o b w e) = here o b
whole_within_bytes _ _ _ _ (ended o b e) = here o b
whole_within_bytes _ _ _ _ (faulty o b f e) = here o b
whole_within_bytes _ _ _ _ (gap o b others stop e more) =
    further o 4 (whole_of stop) b (known_some b Gap e) (whole_within_bytes (o + 4) (drop 4 b) others stop more)
whole_within_bytes _ _ _ _ (object o b x n others stop e more) =
    let some = known_some b (Complete x n) e in
    further o n (whole_of stop) b some.1 (whole_within_bytes (o + n) (drop n b) others stop more)

nothing_left : (o : ℕ) (b : List ℕ) → Reads o (take (o - o) b) [] (Waiting o [])
nothing_left o b =
    let none : 0 ≡ o - o = omega arith in
    subst (λ (k : ℕ). Reads o (take k b) [] (Waiting o [])) none (partial o [] 4 (short_is [] (omega arith)))

-- what lies behind a part, cut back
behind_cut : (o n w : ℕ) (b : List ℕ) → o + n ≤ w → drop n (take (w - o) b) ≡ take (w - (o + n)) (drop n b)
behind_cut o n w b h =
    let is : w - o ≡ n + (w - (o + n)) = omega arith in
    ap (λ (k : ℕ). drop n (take k b)) is ∙ drop-take n (w - (o + n)) b

pub cut_back : (o : ℕ) (b : List ℕ) (xs : List Placed) (s : Stop) → Reads o b xs s → Reads o (take (whole_of s - o) b) xs (Waiting (whole_of s) [])
cut_back _ _ _ _ (partial o b w e) = nothing_left o b
cut_back _ _ _ _ (ended o b e) = nothing_left o b
cut_back _ _ _ _ (faulty o b f e) = nothing_left o b
cut_back _ _ _ _ (gap o b others stop e more) =
    let rest = whole_within_bytes (o + 4) (drop 4 b) others stop more in
    let all = further o 4 (whole_of stop) b (known_some b Gap e) rest in
    gap o (take (whole_of stop - o) b) others (Waiting (whole_of stop) []) (told (whole_of stop - o) b Gap e all.1 (omega (arith, rest.0)))
    (subst (λ (zs : List ℕ). Reads (o + 4) zs others (Waiting (whole_of stop) [])) (sym (behind_cut o 4 (whole_of stop) b rest.0)) (cut_back (o + 4) (drop 4 b) others stop more))
cut_back _ _ _ _ (object o b x n others stop e more) =
    let some = known_some b (Complete x n) e in
    let rest = whole_within_bytes (o + n) (drop n b) others stop more in
    let all = further o n (whole_of stop) b some.1 rest in
    object o (take (whole_of stop - o) b) x n others (Waiting (whole_of stop) []) (told (whole_of stop - o) b (Complete x n) e all.1 (omega (arith, rest.0)))
    (subst (λ (zs : List ℕ). Reads (o + n) zs others (Waiting (whole_of stop) [])) (sym (behind_cut o n (whole_of stop) b rest.0)) (cut_back (o + n) (drop n b) others stop more))

pub written_on : (o n : ℕ) (b : List ℕ) (xs : List Placed) (s : Stop) (ys : List Object) → Reads o b xs s → AreKeepable ys
    → Reads o (take (whole_of s - o) b ++ take n (image_bytes ys)) (xs ++ placed (whole_of s) (whole_within n ys)) (cut_stop (whole_of s) n ys)
written_on o n b xs s ys r can =
    joined o (take (whole_of s - o) b) xs (Waiting (whole_of s) []) (cut_back o b xs s r) (take n (image_bytes ys)) (placed (whole_of s) (whole_within n ys)) (cut_stop (whole_of s) n ys)
    (cut (whole_of s) n ys can)
