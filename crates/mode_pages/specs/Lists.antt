-- Mode parameter lists (SPC-4, "Mode parameter list formats"): a header, block descriptors, mode pages.
use Rattle.std.specs.Prelude.{ℕ, ◌+◌, ◌-◌, List, [], ◌∷◌, ◌++◌, length, replicate}
use Rattle.scsi_cdb.specs.Bytes.{two}
use Rattle.mode_pages.specs.declared.request.HeaderForm.{HeaderForm}
use Rattle.mode_pages.specs.declared.request.HeaderForm.TheVariants.{Six, Ten}

-- the length of the header of the six and of the ten byte commands
abbrev pub header_length : HeaderForm → ℕ
header_length Six = 4
header_length Ten = 8

-- MODE DATA LENGTH, the number of bytes that follow it; MEDIUM TYPE; DEVICE-SPECIFIC PARAMETER; of the longer form two bytes without
-- LONGLBA; BLOCK DESCRIPTOR LENGTH
abbrev pub header : HeaderForm → (medium_type device_specific descriptor_length pages_length : ℕ) → List ℕ
header Six medium_type device_specific descriptor_length pages_length =
    (3 + descriptor_length + pages_length) ∷ medium_type ∷ device_specific ∷ descriptor_length ∷ []
header Ten medium_type device_specific descriptor_length pages_length =
    two (6 + descriptor_length + pages_length) ++ medium_type ∷ device_specific ∷ 0 ∷ 0 ∷ two descriptor_length

-- the header, then the block descriptors and the pages
abbrev pub mode_data : HeaderForm → (medium_type device_specific : ℕ) → (descriptors pages : List ℕ) → List ℕ
mode_data form medium_type device_specific descriptors pages =
    header form medium_type device_specific (length descriptors) (length pages) ++ descriptors ++ pages

-- a page: PAGE CODE, PAGE LENGTH, the fields, and zeros to that length
abbrev pub page_of : (code page_length : ℕ) → (fields : List ℕ) → List ℕ
page_of code page_length fields = code ∷ page_length ∷ (fields ++ replicate (page_length - length fields) 0)
