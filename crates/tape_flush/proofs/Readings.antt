-- Parts that are passed one after another, their objects noted and written on a tape.
use Rattle.std.proofs.Common.{◌≡◌, ℕ, ◌+◌, List, [], ◌++◌, length, map, Option, Some, None, IfSome, refl, sym, ap, subst, ◌∙◌, append-nil, length-append}
use Rattle.std.proofs.lemmas.List.{map-append}
use Rattle.std.proofs.KnownBytes.{Consumes-nil, Consumes-trans}
use Rattle.std.specs.Io.KnownBytes.{Consumes, IsAtEnd}
use Rattle.tape_medium.specs.Object.{Object}
use Rattle.tape_medium.specs.Tape.{blank, settled, moved_to}
use Rattle.tape_medium.specs.TapeView.{TapeView}
use Rattle.tape_image.specs.declared.ending.ImageEnd.{ImageEnd}
use Rattle.tape_image.specs.declared.index.IndexedObject.{IndexedObject}
use Rattle.tape_image.specs.Indexes.{indexed}
use Rattle.tape_image.specs.Parts.{PartValue, Partial, Complete, Gap, End, Invalid, image_part}
use Rattle.tape_image.specs.Reading.{Placed, Reads, image_end}
use Rattle.tape_image.specs.Walking.{ReaderValue, part_objects, behind_part, Awaits, IsPartial, reader_end}
use Rattle.tape_image.proofs.Indexes.{SoFar, awaited, passes, ends_by}
use Rattle.tape_flush.specs.Images.{object_in}
use Rattle.tape_flush.specs.Readings.{object_of, tape_with, tape_of, IsReadAs, IsReadFrom}

-- an image that begins with these bytes holds these objects, and then what it holds from where a reader stands
pub record Passed (all : Option (List ℕ)) (r : ReaderValue) (left : Option (List ℕ)) (capacity : ℕ) (tape : TapeView) (entries : List IndexedObject) : Type 0 where
  pub bytes : List ℕ
  pub objects : List Placed
  pub consumed : Consumes all left bytes
  pub so_far : SoFar bytes r objects
  pub tape_is : tape ≡ tape_with capacity (map object_in objects)
  pub entries_are : entries ≡ map indexed objects
  pub count : r.objects ≡ length objects

pub begun : (left : Option (List ℕ)) (r : ReaderValue) (capacity : ℕ) (tape : TapeView) (entries : List IndexedObject) → r ≡ record { offset = 0; objects = 0; pending = [] }
    → tape ≡ blank capacity → entries ≡ [] → Passed left r left capacity tape entries
begun left r capacity tape entries is new none =
    subst (λ (v : ReaderValue). Passed left v left capacity tape entries) (sym is)
    (record { bytes = []; objects = []; consumed = Consumes-nil left; so_far = λ more others stop reads. reads; tape_is = new; entries_are = none; count = refl })

-- a tape that was written from its beginning on is at its end
pub is_with : (capacity : ℕ) (objects : List Object) (tape : TapeView) → tape ≡ tape_with capacity objects → tape ≡ tape_with tape.capacity tape.objects
is_with capacity objects tape is = subst (λ (t : TapeView). t ≡ tape_with t.capacity t.objects) (sym is) refl

objects_in : (offset : ℕ) (p : PartValue) → object_of p ≡ map object_in (part_objects offset p)
objects_in offset (Complete x count) = refl
objects_in offset (Partial wanted) = refl
objects_in offset Gap = refl
objects_in offset End = refl
objects_in offset (Invalid fault) = refl

-- more of the bytes were read
pub awaits : (all : Option (List ℕ)) (r r' : ReaderValue) (left left' : Option (List ℕ)) (capacity : ℕ) (tape : TapeView) (entries : List IndexedObject)
    → Passed all r left capacity tape entries → Awaits r r' left left' → Passed all r' left' capacity tape entries
awaits all r r' left left' capacity tape entries w aw = record {
  bytes = w.bytes ++ aw.0;
  objects = w.objects;
  consumed = Consumes-trans all left left' w.bytes aw.0 w.consumed aw.2;
  so_far = subst (λ (v : ReaderValue). SoFar (w.bytes ++ aw.0) v w.objects) (sym aw.1) (awaited w.bytes aw.0 r w.objects w.so_far);
  tape_is = w.tape_is;
  entries_are = w.entries_are;
  count = ap (λ (v : ReaderValue). v.objects) aw.1 ∙ w.count;
}

-- one part more
grown : (capacity offset : ℕ) (p : PartValue) (objects : List Placed) (tape tape' : TapeView) → tape ≡ tape_with capacity (map object_in objects)
    → tape' ≡ tape_with tape.capacity (tape.objects ++ object_of p) → tape' ≡ tape_with capacity (map object_in (objects ++ part_objects offset p))
grown capacity offset p objects tape tape' is put =
    put
    ∙ ap (λ (t : TapeView). tape_with t.capacity (t.objects ++ object_of p)) is
    ∙ ap (λ (xs : List Object). tape_with capacity (map object_in objects ++ xs)) (objects_in offset p)
    ∙ ap (tape_with capacity) (sym (map-append object_in objects (part_objects offset p)))

pub stepped : (all : Option (List ℕ)) (r r' r'' : ReaderValue) (left left' : Option (List ℕ)) (capacity : ℕ) (tape tape' : TapeView) (entries entries' : List IndexedObject)
    → Passed all r left capacity tape entries → Awaits r r' left left' → r'' ≡ behind_part r' → tape' ≡ tape_with tape.capacity (tape.objects ++ object_of (image_part r'.pending))
    → entries' ≡ entries ++ map indexed (part_objects r'.offset (image_part r'.pending)) → Passed all r'' left' capacity tape' entries'
stepped all r r' r'' left left' capacity tape tape' entries entries' before aw is put noted =
    let w : Passed all r' left' capacity tape entries = awaits all r r' left left' capacity tape entries before aw in
    let more : List Placed = part_objects r'.offset (image_part r'.pending) in
    let count : r''.objects ≡ r'.objects + length more = ap (λ (v : ReaderValue). v.objects) is in
    record {
      bytes = w.bytes;
      objects = w.objects ++ more;
      consumed = w.consumed;
      so_far = subst (λ (v : ReaderValue). SoFar w.bytes v (w.objects ++ more)) (sym is) (passes w.bytes r' w.objects w.so_far);
      tape_is = grown capacity r'.offset (image_part r'.pending) w.objects tape tape' w.tape_is put;
      entries_are = noted ∙ ap (λ (es : List IndexedObject). es ++ map indexed more) w.entries_are ∙ sym (map-append indexed w.objects more);
      count = count ∙ ap (λ (n : ℕ). n + length more) w.count ∙ sym (length-append w.objects more);
    }

-- back at the beginning
rewound : (capacity n : ℕ) (objects : List Object) (tape tape' : TapeView) → tape ≡ tape_with capacity objects → n ≡ length tape.objects
    → tape' ≡ settled (moved_to tape 0) n → tape' ≡ tape_of capacity objects
rewound capacity n objects tape tape' is count new =
    new
    ∙ ap (settled (moved_to tape 0)) (count ∙ ap (λ (t : TapeView). length t.objects) is)
    ∙ ap (λ (t : TapeView). settled (moved_to t 0) (length objects)) is

read_as : (r : ReaderValue) (bytes rest : List ℕ) (capacity : ℕ) (tape : TapeView) (entries : List IndexedObject) (end : ImageEnd) (objects : List Placed) → SoFar bytes r objects
    → tape ≡ tape_of capacity (map object_in objects) → entries ≡ map indexed objects → r.objects ≡ length objects
    → (IsPartial (image_part r.pending) → rest ≡ []) → Some end ≡ reader_end r → IsReadAs (bytes ++ rest) capacity tape entries end
read_as r bytes rest capacity tape entries end objects h new are count over is =
    let last = ends_by r.offset r.objects r.pending rest (image_part r.pending) end refl over is in
    let reads : Reads 0 (bytes ++ rest) objects last.0 = subst (λ (xs : List Placed). Reads 0 (bytes ++ rest) xs last.0) (append-nil objects) (h rest [] last.0 last.1) in
    record { found = objects; stop = last.0; reads = reads; tape_is = new; entries_are = are; end_is = last.2 ∙ ap (λ (n : ℕ). image_end n last.0) count }

-- of all bytes, where they are known
whole_as : (all : Option (List ℕ)) (r : ReaderValue) (left : Option (List ℕ)) (bytes : List ℕ) (capacity : ℕ) (tape : TapeView) (entries : List IndexedObject) (end : ImageEnd) (objects : List Placed)
    → Consumes all left bytes → SoFar bytes r objects → tape ≡ tape_of capacity (map object_in objects) → entries ≡ map indexed objects → r.objects ≡ length objects
    → (IsPartial (image_part r.pending) → IsAtEnd left) → Some end ≡ reader_end r → IfSome all (λ bs. IsReadAs bs capacity tape entries end)
whole_as None r left bytes capacity tape entries end objects eats h new are count over is = tt
whole_as (Some all) r None bytes capacity tape entries end objects eats h new are count over is = absurd eats
whole_as (Some all) r (Some rest) bytes capacity tape entries end objects eats h new are count over is =
    subst (λ (bs : List ℕ). IsReadAs bs capacity tape entries end) (sym eats) (read_as r bytes rest capacity tape entries end objects h new are count over is)

pub finished : (all : Option (List ℕ)) (r r' : ReaderValue) (left left' : Option (List ℕ)) (capacity n : ℕ) (tape tape' : TapeView) (entries : List IndexedObject) (end : ImageEnd)
    → Passed all r left capacity tape entries → Awaits r r' left left' → n ≡ length tape.objects → tape' ≡ settled (moved_to tape 0) n
    → (IsPartial (image_part r'.pending) → IsAtEnd left') → Some end ≡ reader_end r' → IfSome all (λ bs. IsReadAs bs capacity tape' entries end)
finished all r r' left left' capacity n tape tape' entries end before aw count new over is =
    let w : Passed all r' left' capacity tape entries = awaits all r r' left left' capacity tape entries before aw in
    let back : tape' ≡ tape_of capacity (map object_in w.objects) = rewound capacity n (map object_in w.objects) tape tape' w.tape_is count new in
    whole_as all r' left' w.bytes capacity tape' entries end w.objects w.consumed w.so_far back w.entries_are w.count over is

-- of those that were read
pub read_from : (all : Option (List ℕ)) (r r' : ReaderValue) (left left' : Option (List ℕ)) (capacity n : ℕ) (tape tape' : TapeView) (entries : List IndexedObject) (end : ImageEnd)
    → Passed all r left capacity tape entries → Awaits r r' left left' → n ≡ length tape.objects → tape' ≡ settled (moved_to tape 0) n
    → Some end ≡ reader_end r' → IsReadFrom all left' capacity tape' entries end
read_from all r r' left left' capacity n tape tape' entries end before aw count new is =
    let w : Passed all r' left' capacity tape entries = awaits all r r' left left' capacity tape entries before aw in
    let back : tape' ≡ tape_of capacity (map object_in w.objects) = rewound capacity n (map object_in w.objects) tape tape' w.tape_is count new in
    (w.bytes, w.consumed, subst (λ (bs : List ℕ). IsReadAs bs capacity tape' entries end) (append-nil w.bytes) (read_as r' w.bytes [] capacity tape' entries end w.objects w.so_far back w.entries_are w.count (λ _. refl) is))
