-- What a power cut leaves of an image.
use Rattle.std.proofs.Common.{◌≡◌, ℕ, ◌+◌, ◌-◌, ◌≤◌, List, ◌++◌, length, take, sym, ap, subst, ◌∙◌, append_assoc, length-append, arith}
use Rattle.std.proofs.Math.Seq.{take-append-add}
use Rattle.std.proofs.lemmas.List.{take-take, take_all, length-take-le, length-map}
use Rattle.std.proofs.lemmas.List.Elements.{All-contains}
use Rattle.tape_medium.specs.Object.{Object}
use Rattle.tape_image.specs.Reading.{Placed, Stop, Reads}
use Rattle.tape_flush.specs.declared.known.Known.{Known}
use Rattle.tape_flush.specs.Stores.{FileValue, Survives}
use Rattle.tape_flush.specs.Images.{object_in, end_at, HoldsAll, HoldsFirst}
use Rattle.tape_flush.specs.Saved.{Holds}
use Rattle.tape_flush.specs.Surviving.{OpensAs}
use Rattle.tape_flush.proofs.Holding.{Split, split, same_count, ReadsOn, reads_on, first_cut, first_behind}
use Rattle.tape_image.proofs.Images.{each_reads, one_reading}
use Rattle.tape_flush.proofs.Knowing.{take_less}

zero_plus : (n : ℕ) → n ≡ 0 + n
zero_plus n = omega arith

-- the record says what is on the disk, and this is as it was written
noted_within : (f : FileValue) (k : Known) (ends : List ℕ) (xs ys : List Object) (found : List ℕ) (noted : ℕ) → Holds f k ends xs ys → Survives f found noted
    → (k.least ≤ noted) × (noted ≤ k.most)
noted_within f k ends xs ys found noted h s = All-contains (λ size. (k.least ≤ size) × (size ≤ k.most)) f.noted noted h.is_known.noted s.1

found_bytes : (f : FileValue) (k : Known) (ends : List ℕ) (xs ys : List Object) (found : List ℕ) (noted : ℕ) → (h : Holds f k ends xs ys) → Survives f found noted
    → take noted found ≡ take noted (h.front ++ h.behind)
found_bytes f k ends xs ys found noted h s =
    let is = h.is_known in
    let within = noted_within f k ends xs ys found noted h s in
    let below : noted ≤ k.synced = omega (arith, within.1, is.noted_most) in
    let there : take (length f.synced) found ≡ take (length f.synced) f.synced = s.0 ∙ sym (take_all (length f.synced) f.synced (omega arith)) in
    take_less noted (length f.synced) found f.synced (omega (arith, below, is.synced)) there
    ∙ take_less noted k.synced f.synced f.contents below is.same
    ∙ sym (take-take noted k.sound f.contents (omega (arith, below, is.in_order)))
    ∙ ap (take noted) h.bytes

first : (f : FileValue) (k : Known) (ends : List ℕ) (xs ys : List Object) (found : List ℕ) (noted : ℕ) → Holds f k ends xs ys → Survives f found noted → HoldsFirst 0 (take noted found) (xs ++ ys)
first f k ends xs ys found noted h s =
    let all : HoldsFirst 0 (h.front ++ h.behind) (xs ++ ys) =
    first_behind 0 h.front h.behind xs ys ends h.objects_are (subst (λ (n : ℕ). HoldsFirst n h.behind ys) (zero_plus (length h.front)) h.others_begin) in
    subst (λ (z : List ℕ). HoldsFirst 0 z (xs ++ ys)) (sym (found_bytes f k ends xs ys found noted h s)) (first_cut 0 noted (h.front ++ h.behind) (xs ++ ys) all)

pub survivors_cut : (f : FileValue) (k : Known) (ends : List ℕ) (xs ys : List Object) (found : List ℕ) (noted count : ℕ) → Holds f k ends xs ys → Survives f found noted
    → HoldsFirst 0 (take count (take noted found)) (xs ++ ys)
survivors_cut f k ends xs ys found noted count h s = first_cut 0 count (take noted found) (xs ++ ys) (first f k ends xs ys found noted h s)

-- bytes that begin with objects are read as these first
count_first : (b front rest : List ℕ) (xs : List Object) (es : List ℕ) (found : List Placed) (stop : Stop) → b ≡ front ++ rest → HoldsAll 0 front xs es → Reads 0 b found stop → length xs ≤ length found
count_first b front rest xs es found stop is h r =
    let more = each_reads (0 + length front) rest in
    let on : ReadsOn 0 (front ++ rest) xs more.0 more.1 = reads_on 0 front xs es rest more.0 more.1 h more.2 in
    let same : found ≡ on.found ++ more.0 = (one_reading 0 (front ++ rest) found stop (subst (λ (z : List ℕ). Reads 0 z found stop) is r) (on.found ++ more.0) more.1 on.reads).0 in
    omega (arith, ap length same, length-append on.found more.0, ap length on.are, length-map on.found object_in)

at_least : (f : FileValue) (k : Known) (ends : List ℕ) (xs ys : List Object) (found : List ℕ) (noted : ℕ) (placed : List Placed) (stop : Stop) → Holds f k ends xs ys → Survives f found noted
    → Reads 0 (take noted found) placed stop → (count : ℕ) → count ≤ length ends → end_at ends count ≤ k.least → count ≤ length placed
at_least f k ends xs ys found noted placed stop h s r count within below =
    let size : length ends ≡ length xs = same_count 0 h.front xs ends h.objects_are in
    let part : Split 0 count h.front xs ends = split count 0 h.front xs ends h.objects_are (omega (arith, size)) in
    let range = noted_within f k ends xs ys found noted h s in
    let end : length part.front ≤ noted = omega (arith, part.end, below, range.0) in
    let all : h.front ++ h.behind ≡ part.front ++ (part.back ++ h.behind) =
    ap (λ (z : List ℕ). z ++ h.behind) part.bytes ∙ append_assoc part.front part.back h.behind in
    let noted_is : noted ≡ length part.front + (noted - length part.front) = omega arith in
    let bytes : take noted found ≡ part.front ++ take (noted - length part.front) (part.back ++ h.behind) =
    found_bytes f k ends xs ys found noted h s ∙ ap (take noted) all
    ∙ ap (λ (n : ℕ). take n (part.front ++ (part.back ++ h.behind))) noted_is
    ∙ take-append-add part.front (part.back ++ h.behind) (noted - length part.front) in
    let those : length (take count xs) ≤ length placed =
    count_first (take noted found) part.front (take (noted - length part.front) (part.back ++ h.behind)) (take count xs) (take count ends) placed stop bytes part.first r in
    omega (arith, those, length-take-le count xs (omega (arith, size)))

pub survivors : (f : FileValue) (k : Known) (ends : List ℕ) (xs ys : List Object) (found : List ℕ) (noted : ℕ) → Holds f k ends xs ys → Survives f found noted
    → OpensAs k.least ends (xs ++ ys) (take noted found)
survivors f k ends xs ys found noted h s =
    let one : HoldsFirst 0 (take noted found) (xs ++ ys) = first f k ends xs ys found noted h s in
    record {
      found = one.0;
      stop = one.1;
      others = one.2;
      reads = one.3;
      are = one.4;
      at_least = at_least f k ends xs ys found noted one.0 one.1 h s one.3;
    }
