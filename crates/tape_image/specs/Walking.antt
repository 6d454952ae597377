-- An image read part by part, as its bytes come.
use Rattle.std.specs.Prelude.{◌≡◌, ℕ, ◌+◌, ◌≤◌, List, [], ◌∷◌, ◌++◌, length, drop, Option, Some, None}
use Rattle.std.specs.Io.KnownBytes.{Consumes}
use Rattle.std.specs.Option.{option_map}
use Rattle.tape_image.specs.declared.ending.ImageEnd.{ImageEnd}
use Rattle.tape_image.specs.Parts.{PartValue, Partial, Complete, Gap, End, Invalid, image_part}
use Rattle.tape_image.specs.Reading.{Placed, Stop, Waiting, Ended, Broken, image_end}

-- where a reader stands: at a part, by its offset, what was read of it, and how many objects came before it
pub record ReaderValue : Type 0 where
  pub offset : ℕ
  pub objects : ℕ
  pub pending : List ℕ

-- how many bytes an object or an erase gap takes
abbrev pub part_count : PartValue → ℕ
part_count (Complete object count) = count
part_count Gap = 4
part_count _ = 0

-- the object that a part is, if it is one
abbrev pub part_objects : (offset : ℕ) → PartValue → List Placed
part_objects offset (Complete x count) = record { offset = offset; object = x } ∷ []
part_objects offset _ = []

-- behind an object or an erase gap; at anything else nothing changes
abbrev pub behind_part : ReaderValue → ReaderValue
behind_part r = record {
  offset = r.offset + part_count (image_part r.pending);
  objects = r.objects + length (part_objects r.offset (image_part r.pending));
  pending = drop (part_count (image_part r.pending)) r.pending;
}

-- some bytes more were read
abbrev pub Awaits : (r r' : ReaderValue) → (left left' : Option (List ℕ)) → Type 0
Awaits r r' left left' = (piece : List ℕ) × (r' ≡ record r { pending = r.pending ++ piece }) × Consumes left left' piece

-- less than a part
abbrev pub IsPartial : PartValue → Type 0
IsPartial (Partial wanted) = Unit {0}
IsPartial _ = ⊥

-- an object, an erase gap or the end mark takes so many bytes at least
abbrev pub HasNoMore : ℕ → PartValue → Type 0
HasNoMore len (Complete object count) = len ≤ count
HasNoMore len Gap = len ≤ 4
HasNoMore len End = len ≤ 4
HasNoMore len _ = Unit {0}

-- where reading stops, if no part can be passed there
abbrev pub stop_at : (offset : ℕ) → (bytes : List ℕ) → PartValue → Option Stop
stop_at offset bytes (Partial wanted) = Some (Waiting offset bytes)
stop_at offset bytes End = Some (Ended offset)
stop_at offset bytes (Invalid fault) = Some (Broken offset fault)
stop_at offset bytes _ = None

abbrev pub reader_end : ReaderValue → Option ImageEnd
reader_end r = option_map (image_end r.objects) (stop_at r.offset r.pending (image_part r.pending))
