-- Parts that are passed one after another, as far as the bytes are known.
use Rattle.std.proofs.Common.{◌≡◌, ℕ, ◌+◌, ◌≤◌, List, [], ◌++◌, length, map, Option, Some, None, IfSome, refl, sym, ap, subst, ◌∙◌, append_assoc, append-nil, length-append, arith}
use Rattle.std.proofs.lemmas.List.{map-append}
use Rattle.std.proofs.KnownBytes.{Consumes-nil, Consumes-trans}
use Rattle.std.specs.Io.KnownBytes.{Consumes, IsAtEnd}
use Rattle.std.specs.Option.{option_map}
use Rattle.tape_image.specs.declared.ending.ImageEnd.{ImageEnd}
use Rattle.tape_image.specs.declared.index.IndexedObject.{IndexedObject}
use Rattle.tape_image.specs.Indexes.{indexed, IsIndexOf, IsReadIndex}
use Rattle.tape_image.specs.Parts.{PartValue, Partial, Complete, Gap, End, Invalid, image_part}
use Rattle.tape_image.specs.Reading.{Placed, Stop, Waiting, Ended, Broken, Reads, partial, ended, faulty, image_end}
use Rattle.tape_image.specs.Walking.{ReaderValue, part_count, part_objects, behind_part, Awaits, IsPartial, stop_at, reader_end}
use Rattle.tape_image.proofs.Images.{joined, known_some}
use Rattle.tape_image.proofs.Walking.{passed_is_read}

-- an image that begins with these bytes holds these objects, and then what it holds from where a reader stands
abbrev pub SoFar : List ℕ → ReaderValue → List Placed → Type 0
SoFar bytes r objects = (more : List ℕ) (others : List Placed) (stop : Stop) → Reads r.offset (r.pending ++ more) others stop → Reads 0 (bytes ++ more) (objects ++ others) stop

-- and an index of them
pub record Walked (all : Option (List ℕ)) (r : ReaderValue) (left : Option (List ℕ)) (entries : List IndexedObject) : Type 0 where
  pub bytes : List ℕ
  pub objects : List Placed
  pub consumed : Consumes all left bytes
  pub so_far : SoFar bytes r objects
  pub entries_are : entries ≡ map indexed objects
  pub count : r.objects ≡ length objects

pub begun : (left : Option (List ℕ)) (r : ReaderValue) (entries : List IndexedObject) → r ≡ record { offset = 0; objects = 0; pending = [] } → entries ≡ [] → Walked left r left entries
begun left r entries is none =
    subst (λ (v : ReaderValue). Walked left v left entries) (sym is)
    (record { bytes = []; objects = []; consumed = Consumes-nil left; so_far = λ more others stop reads. reads; entries_are = none; count = refl })

-- more of the bytes were read
pub awaited : (bytes piece : List ℕ) (r : ReaderValue) (objects : List Placed) → SoFar bytes r objects → SoFar (bytes ++ piece) (record r { pending = r.pending ++ piece }) objects
awaited bytes piece r objects h more others stop reads =
    subst (λ (zs : List ℕ). Reads 0 zs (objects ++ others) stop) (sym (append_assoc bytes piece more))
    (h (piece ++ more) others stop (subst (λ (zs : List ℕ). Reads r.offset zs others stop) (append_assoc r.pending piece more) reads))

pub awaits : (all : Option (List ℕ)) (r r' : ReaderValue) (left left' : Option (List ℕ)) (entries : List IndexedObject) → Walked all r left entries
    → Awaits r r' left left' → Walked all r' left' entries
awaits all r r' left left' entries w aw = record {
  bytes = w.bytes ++ aw.0;
  objects = w.objects;
  consumed = Consumes-trans all left left' w.bytes aw.0 w.consumed aw.2;
  so_far = subst (λ (v : ReaderValue). SoFar (w.bytes ++ aw.0) v w.objects) (sym aw.1) (awaited w.bytes aw.0 r w.objects w.so_far);
  entries_are = w.entries_are;
  count = ap (λ (v : ReaderValue). v.objects) aw.1 ∙ w.count;
}

pub passes : (bytes : List ℕ) (r : ReaderValue) (objects : List Placed) → SoFar bytes r objects → SoFar bytes (behind_part r) (objects ++ part_objects r.offset (image_part r.pending))
passes bytes r objects h more others stop reads =
    subst (λ (zs : List Placed). Reads 0 (bytes ++ more) zs stop) (sym (append_assoc objects (part_objects r.offset (image_part r.pending)) others))
    (h more (part_objects r.offset (image_part r.pending) ++ others) stop (passed_is_read r.offset r.pending more others stop reads))

-- one part more
pub stepped : (all : Option (List ℕ)) (r r' r'' : ReaderValue) (left left' : Option (List ℕ)) (entries entries' : List IndexedObject) → Walked all r left entries
    → Awaits r r' left left' → r'' ≡ behind_part r' → entries' ≡ entries ++ map indexed (part_objects r'.offset (image_part r'.pending)) → Walked all r'' left' entries'
stepped all r r' r'' left left' entries entries' before aw is grown =
    let w : Walked all r' left' entries = awaits all r r' left left' entries before aw in
    let more : List Placed = part_objects r'.offset (image_part r'.pending) in
    let count : r''.objects ≡ r'.objects + length more = ap (λ (v : ReaderValue). v.objects) is in
    record {
      bytes = w.bytes;
      objects = w.objects ++ more;
      consumed = w.consumed;
      so_far = subst (λ (v : ReaderValue). SoFar w.bytes v (w.objects ++ more)) (sym is) (passes w.bytes r' w.objects w.so_far);
      entries_are = grown ∙ ap (λ (es : List IndexedObject). es ++ map indexed more) w.entries_are ∙ sym (map-append indexed w.objects more);
      count = count ∙ ap (λ (n : ℕ). n + length more) w.count ∙ sym (length-append w.objects more);
    }

same_end : (x y : ImageEnd) → Some x ≡ Some y → x ≡ y
same_end x y e = cc

-- where no part can be passed reading stops
pub ends_by : (o n : ℕ) (b rest : List ℕ) (p : PartValue) (end : ImageEnd) → image_part b ≡ p → (IsPartial p → rest ≡ [])
    → Some end ≡ option_map (image_end n) (stop_at o b p) → (stop : Stop) × Reads o (b ++ rest) [] stop × (end ≡ image_end n stop)
ends_by o n b rest (Partial w) end e over is =
    let all : b ≡ b ++ rest = sym (ap (λ (zs : List ℕ). b ++ zs) (over tt) ∙ append-nil b) in
    (Waiting o b, subst (λ (zs : List ℕ). Reads o zs [] (Waiting o b)) all (partial o b w e), same_end end (image_end n (Waiting o b)) is)
ends_by o n b rest End end e over is =
    (Ended o, joined o b [] (Ended o) (ended o b e) rest [] (Ended o) (refl, refl), same_end end (image_end n (Ended o)) is)
ends_by o n b rest (Invalid f) end e over is =
    (Broken o f, joined o b [] (Broken o f) (faulty o b f e) rest [] (Broken o f) (refl, refl), same_end end (image_end n (Broken o f)) is)
ends_by o n b rest Gap end e over is = absurd cc
ends_by o n b rest (Complete x count) end e over is = absurd cc

index_of : (r : ReaderValue) (bytes rest : List ℕ) (entries : List IndexedObject) (end : ImageEnd) (objects : List Placed) → SoFar bytes r objects
    → entries ≡ map indexed objects → r.objects ≡ length objects → (IsPartial (image_part r.pending) → rest ≡ []) → Some end ≡ reader_end r → IsIndexOf (bytes ++ rest) entries end
index_of r bytes rest entries end objects h are count over is =
    let last = ends_by r.offset r.objects r.pending rest (image_part r.pending) end refl over is in
    let reads : Reads 0 (bytes ++ rest) objects last.0 = subst (λ (xs : List Placed). Reads 0 (bytes ++ rest) xs last.0) (append-nil objects) (h rest [] last.0 last.1) in
    (objects, last.0, reads, are, last.2 ∙ ap (λ (n : ℕ). image_end n last.0) count)

-- of all bytes, where they are known
whole_index : (all : Option (List ℕ)) (r : ReaderValue) (left : Option (List ℕ)) (bytes : List ℕ) (entries : List IndexedObject) (end : ImageEnd) (objects : List Placed) → Consumes all left bytes
    → SoFar bytes r objects → entries ≡ map indexed objects → r.objects ≡ length objects → (IsPartial (image_part r.pending) → IsAtEnd left) → Some end ≡ reader_end r
    → IfSome all (λ bs. IsIndexOf bs entries end)
whole_index None r left bytes entries end objects eats h are count over is = tt
whole_index (Some all) r None bytes entries end objects eats h are count over is = absurd eats
whole_index (Some all) r (Some rest) bytes entries end objects eats h are count over is =
    subst (λ (bs : List ℕ). IsIndexOf bs entries end) (sym eats) (index_of r bytes rest entries end objects h are count over is)

pub finished : (all : Option (List ℕ)) (r r' : ReaderValue) (left left' : Option (List ℕ)) (entries : List IndexedObject) (end : ImageEnd) → Walked all r left entries → Awaits r r' left left'
    → (IsPartial (image_part r'.pending) → IsAtEnd left') → Some end ≡ reader_end r' → IfSome all (λ bs. IsIndexOf bs entries end)
finished all r r' left left' entries end before aw over is =
    let w : Walked all r' left' entries = awaits all r r' left left' entries before aw in
    whole_index all r' left' w.bytes entries end w.objects w.consumed w.so_far w.entries_are w.count over is

-- of those that were read
pub read_index : (all : Option (List ℕ)) (r r' : ReaderValue) (left left' : Option (List ℕ)) (entries : List IndexedObject) (end : ImageEnd) → Walked all r left entries → Awaits r r' left left'
    → Some end ≡ reader_end r' → IsReadIndex all left' entries end
read_index all r r' left left' entries end before aw is =
    let w : Walked all r' left' entries = awaits all r r' left left' entries before aw in
    (w.bytes, w.consumed, subst (λ (bs : List ℕ). IsIndexOf bs entries end) (append-nil w.bytes) (index_of r' w.bytes [] entries end w.objects w.so_far w.entries_are w.count (λ _. refl) is))

count_by : (o n : ℕ) (b : List ℕ) (p : PartValue) → image_part b ≡ p → option_map (image_end n) (stop_at o b p) ≡ None → 4 ≤ part_count p
count_by o n b (Partial w) e none = absurd cc
count_by o n b End e none = absurd cc
count_by o n b (Invalid f) e none = absurd cc
count_by o n b Gap e none = omega arith
count_by o n b (Complete x count) e none = (known_some b (Complete x count) e).0

-- a part that is passed has some bytes
pub counts : (r : ReaderValue) → reader_end r ≡ None → 4 ≤ part_count (image_part r.pending)
counts r none = count_by r.offset r.objects r.pending (image_part r.pending) refl none
