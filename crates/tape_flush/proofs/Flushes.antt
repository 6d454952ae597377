-- What a part that is written leaves of an image, and how that is read.
use Rattle.std.proofs.Common.{◌≡◌, ℕ, ◌+◌, ◌-◌, ◌≤◌, List, [], ◌++◌, length, take, drop, map, Option, Some, None, sym, ap, subst, ◌∙◌, append_assoc, length-append, arith}
use Rattle.std.proofs.lemmas.List.{append-nil, take_at}
use Rattle.std.proofs.Math.Seq.{take-append-add}
use Rattle.std.specs.Option.{IsSomeAnd}
use Rattle.tape_medium.specs.Object.{Object}
use Rattle.tape_image.specs.Images.{image_bytes, AreKeepable}
use Rattle.tape_image.specs.Reading.{Placed, Waiting, Reads}
use Rattle.tape_flush.specs.Images.{ImageValue, end_at, ends_from, object_in, HoldsAll, HoldsFirst, IsWhole, IsHeld}
use Rattle.tape_flush.proofs.Holding.{Split, split, join, written, ReadsOn, reads_on, holds_nothing, first_cut, first_behind, first_written}

-- bytes that hold objects for sure, and then the first of others
abbrev pub Bytes : List ℕ → List ℕ → (known others : List Object) → Type 0
Bytes ends bytes known others =
    (front tail : List ℕ) × (bytes ≡ front ++ tail) × HoldsAll 0 front known ends × HoldsFirst (length front) tail others

front_of : (stay : ℕ) (ends bytes front tail : List ℕ) (known : List Object) → bytes ≡ front ++ tail → (s : Split 0 stay front known ends) → take (end_at ends stay) bytes ≡ s.front
front_of stay ends bytes front tail known is s =
    let all : bytes ≡ s.front ++ (s.back ++ tail) = is ∙ ap (λ (z : List ℕ). z ++ tail) s.bytes ∙ append_assoc s.front s.back tail in
    let size : length s.front ≡ end_at ends stay = omega (arith, s.end) in
    ap (take (end_at ends stay)) all ∙ take_at s.front (s.back ++ tail) (end_at ends stay) size

-- those that stay, and what was written behind them
pub whole_bytes : (stay : ℕ) (ends bytes bytes' front tail : List ℕ) (known new : List Object) → stay ≤ length known → AreKeepable new → bytes ≡ front ++ tail → HoldsAll 0 front known ends
    → bytes' ≡ take (end_at ends stay) bytes ++ image_bytes new → HoldsAll 0 bytes' (take stay known ++ new) (take stay ends ++ ends_from (end_at ends stay) new)
whole_bytes stay ends bytes bytes' front tail known new within can all h is =
    let s : Split 0 stay front known ends = split stay 0 front known ends h within in
    let first : take (end_at ends stay) bytes ≡ s.front = front_of stay ends bytes front tail known all s in
    let here : 0 + length s.front ≡ end_at ends stay = s.end in
    subst (λ (z : List ℕ). HoldsAll 0 z (take stay known ++ new) (take stay ends ++ ends_from (end_at ends stay) new))
    (sym (is ∙ ap (λ (z : List ℕ). z ++ image_bytes new) first))
    (
    join 0 s.front (image_bytes new) (take stay known) new (take stay ends) (ends_from (end_at ends stay) new) s.first
    (subst (λ (k : ℕ). HoldsAll (0 + length s.front) (image_bytes new) new (ends_from k new)) here (written (0 + length s.front) new can))
    )

abbrev Known : List ℕ → Option (List ℕ) → (known others : List Object) → Type 0
Known ends c known others = IsSomeAnd c (λ bytes. Bytes ends bytes known others)

-- A PART THAT FAILS

pub cut_bytes : (stay left : ℕ) (ends bytes : List ℕ) (known others : List Object) → stay ≤ length known → end_at ends stay ≤ left → Bytes ends bytes known others
    → Bytes (take stay ends) (take left bytes) (take stay known) (drop stay known ++ others)
cut_bytes stay left ends bytes known others within enough h =
    let s : Split 0 stay h.0 known ends = split stay 0 h.0 known ends h.3 within in
    let size : length s.front ≡ end_at ends stay = omega (arith, s.end) in
    let all : bytes ≡ s.front ++ (s.back ++ h.1) = h.2 ∙ ap (λ (z : List ℕ). z ++ h.1) s.bytes ∙ append_assoc s.front s.back h.1 in
    let left_is : left ≡ length s.front + (left - length s.front) = omega arith in
    let length_is : length h.0 ≡ length s.front + length s.back = ap length s.bytes ∙ length-append s.front s.back in
    let others_in : HoldsAll (length s.front) s.back (drop stay known) (drop stay ends) =
    subst (λ (k : ℕ). HoldsAll k s.back (drop stay known) (drop stay ends)) (omega arith) s.others in
    let behind : HoldsFirst (length s.front) (s.back ++ h.1) (drop stay known ++ others) =
    first_behind (length s.front) s.back h.1 (drop stay known) others (drop stay ends) others_in
    (subst (λ (k : ℕ). HoldsFirst k h.1 others) length_is h.4) in (
      s.front,
      take (left - length s.front) (s.back ++ h.1),
      ap (take left) all ∙ ap (λ (k : ℕ). take k (s.front ++ (s.back ++ h.1))) left_is ∙ take-append-add s.front (s.back ++ h.1) (left - length s.front),
      s.first,
      first_cut (length s.front) (left - length s.front) (s.back ++ h.1) (drop stay known ++ others) behind,
    )

pub some_bytes : (stay count : ℕ) (ends bytes bytes' : List ℕ) (known others new : List Object) → stay ≤ length known → AreKeepable new → Bytes ends bytes known others
    → bytes' ≡ take (end_at ends stay) bytes ++ take count (image_bytes new) → Bytes (take stay ends) bytes' (take stay known) new
some_bytes stay count ends bytes bytes' known others new within can h is =
    let s : Split 0 stay h.0 known ends = split stay 0 h.0 known ends h.3 within in
    let first : take (end_at ends stay) bytes ≡ s.front = front_of stay ends bytes h.0 h.1 known h.2 s in (
      s.front,
      take count (image_bytes new),
      is ∙ ap (λ (z : List ℕ). z ++ take count (image_bytes new)) first,
      s.first,
      first_written (length s.front) count new can,
    )

-- HOW IT IS READ

whole_read : (c : Option (List ℕ)) (ends : List ℕ) (objects : List Object) → IsSomeAnd c (λ bytes. HoldsAll 0 bytes objects ends)
    → IsSomeAnd c (λ bytes. (found : List Placed) × (whole : ℕ) × Reads 0 bytes found (Waiting whole []) × (map object_in found ≡ objects))
whole_read None ends objects h = h
whole_read (Some b) ends objects h =
    let on : ReadsOn 0 (b ++ []) objects [] (Waiting (0 + length b) []) = reads_on 0 b objects ends [] [] (Waiting (0 + length b) []) h (holds_nothing (0 + length b)) in (
      on.found,
      0 + length b,
      subst (λ (ps : List Placed). Reads 0 b ps (Waiting (0 + length b) [])) (append-nil on.found)
          (subst (λ (z : List ℕ). Reads 0 z (on.found ++ []) (Waiting (0 + length b) [])) (append-nil b) on.reads),
      on.are,
    )

pub whole_is_read : (image : ImageValue) (objects : List Object) → IsWhole image objects
    → IsSomeAnd image.contents (λ bytes. (found : List Placed) × (whole : ℕ) × Reads 0 bytes found (Waiting whole []) × (map object_in found ≡ objects))
whole_is_read image objects h = whole_read image.contents image.ends objects h

held_read : (c : Option (List ℕ)) (ends : List ℕ) (known others : List Object) → Known ends c known others → IsSomeAnd c (λ bytes. HoldsFirst 0 bytes (known ++ others))
held_read None ends known others h = h
held_read (Some b) ends known others h =
    subst (λ (z : List ℕ). HoldsFirst 0 z (known ++ others)) (sym h.2)
    (first_behind 0 h.0 h.1 known others ends h.3 (subst (λ (k : ℕ). HoldsFirst k h.1 others) (omega arith) h.4))

pub held_is_read : (image : ImageValue) (known others : List Object) → IsHeld image known others → IsSomeAnd image.contents (λ bytes. HoldsFirst 0 bytes (known ++ others))
held_is_read image known others h = held_read image.contents image.ends known others h
