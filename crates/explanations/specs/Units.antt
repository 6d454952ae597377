-- The data of INQUIRY and REPORT LUNS in words (SPC-4, "Standard INQUIRY data", "REPORT LUNS command").
use Rattle.std.specs.Prelude.{ℕ, ◌+◌, ◌/◌, ◌%◌, ◌==◌, ◌&&◌, nat_lt, nat_le, List, [], ◌++◌, length, take, drop, codes, if◌then◌else◌}
use Rattle.std.specs.Fmt.{decimal}
use Rattle.hex.specs.Hex.{encode_lower}
use Rattle.scsi_cdb.specs.Bits.{byte, two_bytes, four_bytes}
use Rattle.explanations.specs.Pieces.{behind_header, whole_pieces}
use Rattle.explanations.specs.Words.{coded_text, cut, number_text, quoted}

-- PERIPHERAL DEVICE TYPE: bits 4 to 0 of byte 0
unfoldable pub device_text : ℕ → List ℕ
device_text type =
    if type == 0x01 then codes "tape drive"
    else if type == 0x08 then codes "medium changer"
    else if type == 0x1F then codes "no device"
    else coded_text (codes "device type ") type

-- PERIPHERAL QUALIFIER: bits 7 to 5
unfoldable pub qualifier_text : ℕ → List ℕ
qualifier_text qualifier =
    if qualifier == 0 then codes ", connected"
    else if qualifier == 1 then codes ", not connected"
    else if qualifier == 3 then codes ", not supported"
    else coded_text (codes ", peripheral qualifier ") qualifier

unfoldable pub peripheral_text : List ℕ → List ℕ
peripheral_text bytes =
    if length bytes == 0 then [] else codes ", " ++ device_text (byte bytes 0 % 32) ++ qualifier_text (byte bytes 0 / 32)

-- a field of text, where it is whole
unfoldable pub field_text : (name : List ℕ) → (place size : ℕ) → List ℕ → List ℕ
field_text name place size bytes =
    if nat_le (place + size) (length bytes) then name ++ quoted (take size (drop place bytes)) else []

-- the vendor, the product and the revision
abbrev pub product_text : List ℕ → List ℕ
product_text bytes =
    field_text (codes ", vendor ") 8 8 bytes ++ field_text (codes ", product ") 16 16 bytes ++ field_text (codes ", revision ") 32 4 bytes

-- byte 4 is how many bytes follow it
unfoldable pub inquiry_cut : List ℕ → List ℕ
inquiry_cut bytes = if nat_lt (length bytes) 5 then codes ", cut" else cut (5 + byte bytes 4) bytes

abbrev pub inquiry_text : List ℕ → List ℕ
inquiry_text bytes = peripheral_text bytes ++ product_text bytes ++ inquiry_cut bytes

-- a VPD page: its code, and its length, which doesn't count the four bytes of its header
unfoldable pub page_code_text : List ℕ → List ℕ
page_code_text bytes = if nat_le 2 (length bytes) then coded_text (codes ", page ") (byte bytes 1) else []

unfoldable pub page_length_text : List ℕ → List ℕ
page_length_text bytes =
    if nat_lt (length bytes) 4 then codes ", cut"
    else number_text (codes ", length ") (two_bytes bytes 2) ++ cut (4 + two_bytes bytes 2) bytes

abbrev pub page_text : List ℕ → List ℕ
page_text bytes = page_code_text bytes ++ page_length_text bytes

-- a LUN as a number where it has one level and no bus (SAM-5, "Single level logical unit number structure")
unfoldable pub lun_text : List ℕ → List ℕ
lun_text lun =
    codes " "
    ++ (if byte lun 0 == 0 && (two_bytes lun 2 == 0 && four_bytes lun 4 == 0) then decimal (byte lun 1) else encode_lower lun)

abbrev pub luns_in : (told : ℕ) → List ℕ → List ℕ
luns_in told bytes = if told == 0 then codes ", no LUNs" else codes ", LUNs" ++ whole_pieces lun_text 8 (behind_header told bytes)

unfoldable pub luns_text : List ℕ → List ℕ
luns_text bytes =
    if nat_lt (length bytes) 8 then codes ", cut" else luns_in (four_bytes bytes 0) bytes ++ cut (8 + four_bytes bytes 0) bytes
