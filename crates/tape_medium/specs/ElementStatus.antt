use Rattle.std.specs.Prelude.{ℕ, ◌+◌, ◌*◌, ◌/◌, ◌%◌, Bool, ◌&&◌, ◌||◌, ◌==◌, nat_le, List, [], ◌∷◌, ◌++◌, length, take, map, filter, replicate, Option, Some, None, is_some, if◌then◌else◌}
use Rattle.std.specs.List.{flat_map}
use Rattle.tape_medium.specs.declared.volume.VolumeTag.{VolumeTag}
use Rattle.tape_medium.specs.Elements.{Elements, tag_of, first_data_transfer, first_import_export, first_storage}

-- The parameter data of READ ELEMENT STATUS (SMC-3, "READ ELEMENT STATUS command").

-- a number of two bytes, and one of three, the most significant byte first
abbrev pub two_bytes : ℕ → List ℕ
two_bytes n = (n / 0x100 % 0x100) ∷ (n % 0x100) ∷ []

abbrev pub three_bytes : ℕ → List ℕ
three_bytes n = (n / 0x10000 % 0x100) ∷ two_bytes n

-- an element as it is reported: its element type code, its address, and the tag of the volume that it is full with
pub record Reported : Type 0 where
  pub type_code : ℕ
  pub address : ℕ
  pub tag : Option VolumeTag

-- the elements of one type, from its first address on
abbrev pub of_type : ℕ → ℕ → List (Option VolumeTag) → List Reported
of_type type_code first [] = []
of_type type_code first (tag ∷ tags) = record { type_code = type_code; address = first; tag = tag } ∷ of_type type_code (first + 1) tags

-- all elements in order of address: medium transport (1), data transfer (4), import/export (3), storage (2)
abbrev pub all_reported : Elements → List Reported
all_reported e =
    of_type 1 0 (None ∷ [])
    ++ of_type 4 first_data_transfer e.data_transfer
    ++ of_type 3 first_import_export (map tag_of e.import_export)
    ++ of_type 2 first_storage (map tag_of e.storage)

-- those of the type that is asked for (0: all) from an address on, at most `count`
abbrev pub reported : Elements → ℕ → ℕ → ℕ → List Reported
reported e type_code start count =
    take count (filter (λ r. (type_code == 0 || r.type_code == type_code) && nat_le start r.address) (all_reported e))

-- FULL is bit 0; ACCESS is bit 3 for all but the medium transport; EXENAB and INENAB are bits 4 and 5 for import/export
abbrev pub flags_of : Reported → ℕ
flags_of r = (if is_some r.tag then 0x01 else 0) + (if r.type_code == 1 then 0 else 0x08) + (if r.type_code == 3 then 0x30 else 0)

-- the primary volume tag information: the tag and four zeros, all zeros where the element is empty
abbrev pub tag_information : Option VolumeTag → List ℕ
tag_information None = replicate 36 0
tag_information (Some tag) = tag.0 ++ replicate 4 0

abbrev pub descriptor_length : Bool → ℕ
descriptor_length voltag = if voltag then 0x34 else 0x10

abbrev pub descriptor : Bool → Reported → List ℕ
descriptor voltag r =
    two_bytes r.address ++ flags_of r ∷ replicate 9 0 ++ (if voltag then tag_information r.tag else []) ++ replicate 4 0

-- a page of the elements of one type, none where there is no such element
abbrev pub page_of : Bool → ℕ → List Reported → List ℕ
page_of voltag type_code [] = []
page_of voltag type_code (r ∷ rs) =
    type_code ∷ (if voltag then 0x80 else 0) ∷ []
    ++ two_bytes (descriptor_length voltag)
    ++ 0 ∷ three_bytes (length (r ∷ rs) * descriptor_length voltag)
    ++ flat_map (descriptor voltag) (r ∷ rs)

abbrev pub page : Bool → List Reported → ℕ → List ℕ
page voltag rs type_code = page_of voltag type_code (filter (λ r. r.type_code == type_code) rs)

-- a page for each type, in order of address
abbrev pub pages : Bool → List Reported → List ℕ
pages voltag rs = page voltag rs 1 ++ page voltag rs 4 ++ page voltag rs 3 ++ page voltag rs 2

abbrev pub first_address : List Reported → ℕ
first_address [] = 0
first_address (r ∷ rs) = r.address

-- the header: first address reported, number of elements, bytes that follow
abbrev pub status_of : Bool → List Reported → List ℕ
status_of voltag rs =
    let all = pages voltag rs in
    two_bytes (first_address rs) ++ two_bytes (length rs) ++ 0 ∷ three_bytes (length all) ++ all

abbrev pub element_status : Elements → ℕ → ℕ → ℕ → Bool → List ℕ
element_status e type_code start count voltag = status_of voltag (reported e type_code start count)
