-- The data of READ ELEMENT STATUS in words (SMC-3, "READ ELEMENT STATUS command").
use Rattle.std.specs.Prelude.{ℕ, zero, suc, ◌+◌, ◌/◌, ◌==◌, nat_lt, Bool, List, [], ◌++◌, length, take, drop, codes, if◌then◌else◌}
use Rattle.hex.specs.Hex.{encode_lower}
use Rattle.scsi_cdb.specs.Bits.{bit, byte, two_bytes, three_bytes}
use Rattle.explanations.specs.Pieces.{behind_header, whole_pieces}
use Rattle.explanations.specs.Words.{coded_text, cut, quoted}

unfoldable pub element_type_text : ℕ → List ℕ
element_type_text type =
    if type == 1 then codes "medium transport"
    else if type == 2 then codes "storage"
    else if type == 3 then codes "import/export"
    else if type == 4 then codes "data transfer"
    else coded_text (codes "element type ") type

-- the volume tag, in bytes 12 to 43
unfoldable pub tag_text : Bool → List ℕ → List ℕ
tag_text tags descriptor = if tags then codes " " ++ quoted (take 32 (drop 12 descriptor)) else []

-- SVALID, and the address of the element that the volume came from, in bytes 10 and 11
unfoldable pub source_text : List ℕ → List ℕ
source_text descriptor = if bit descriptor 9 7 then codes " from " ++ encode_lower (take 2 (drop 10 descriptor)) ++ codes "h" else []

-- FULL
unfoldable pub fullness_text : Bool → List ℕ → List ℕ
fullness_text tags descriptor = if bit descriptor 2 0 then codes " full" ++ tag_text tags descriptor ++ source_text descriptor else codes " empty"

-- a descriptor: the address, in bytes 0 and 1, the type, and whether it is full
unfoldable pub element_text : (type : ℕ) → (tags : Bool) → List ℕ → List ℕ
element_text type tags descriptor =
    codes ", " ++ encode_lower (take 2 descriptor) ++ codes "h " ++ element_type_text type ++ fullness_text tags descriptor

-- a page: a header of 8 bytes with the element type code, PVOLTAG, the length of a descriptor and that of all, and the descriptors
unfoldable pub page_text : List ℕ → List ℕ
page_text list =
    if nat_lt (length list) 8 then []
    else if two_bytes list 2 == 0 then []
    else whole_pieces (element_text (byte list 0) (bit list 1 7)) (two_bytes list 2) (behind_header (three_bytes list 5) list)

-- so many pages, one after another
abbrev pub pages : (count : ℕ) → List ℕ → List ℕ
pages zero list = []
pages (suc count) list = page_text list ++ pages count (drop (8 + three_bytes list 5) list)

-- all pages: each has 8 bytes at least
abbrev pub pages_in : List ℕ → List ℕ
pages_in list = pages (length list / 8) list

unfoldable pub elements_in : (told : ℕ) → List ℕ → List ℕ
elements_in told bytes = if told == 0 then codes ", no elements" else pages_in (behind_header told bytes)

unfoldable pub elements_text : List ℕ → List ℕ
elements_text bytes =
    if nat_lt (length bytes) 8 then codes ", cut"
    else elements_in (three_bytes bytes 5) bytes ++ cut (8 + three_bytes bytes 5) bytes
