-- Worked rows: the lines of data that aren't reservations.
use Rattle.std.specs.Prelude.{◌≡◌, ℕ, List, [], ◌∷◌, ◌++◌, replicate, take, codes, None}
use Rattle.scsi_sense.specs.declared.status.Status.TheVariants.{Good}
use Rattle.scsi_cdb.specs.declared.kind.Kind.TheVariants.{Changer}
use Rattle.scsi_cdb.specs.declared.profile.Profile.TheVariants.{Spec}
use Rattle.scsi_cdb.specs.Kinds.{commands}
use Rattle.explanations.specs.Explanation.{explanation}
use Rattle.explanations.specs.Rows.{big, line, said}

-- the line of GOOD with data, of a changer
abbrev pub said_by_changer : (cdb payload : List ℕ) → List ℕ
said_by_changer cdb payload = explanation (commands Spec Changer) cdb Good None payload

-- the CDBs of INQUIRY, by EVPD and the page, MODE SENSE(6), READ POSITION, REPORT LUNS and READ ELEMENT STATUS
abbrev pub inquiry : (evpd page : ℕ) → List ℕ
inquiry evpd page = 0x12 ∷ evpd ∷ page ∷ 0 ∷ 0x24 ∷ 0 ∷ []

abbrev pub mode_sense : List ℕ
mode_sense = 0x1A ∷ 0 ∷ 0 ∷ 0 ∷ 0xFF ∷ 0 ∷ []

abbrev pub read_position : List ℕ
read_position = 0x34 ∷ replicate 9 0

abbrev pub report_luns : List ℕ
report_luns = 0xA0 ∷ replicate 7 0 ++ 0xFF ∷ 0xFF ∷ 0 ∷ 0 ∷ []

abbrev pub read_element_status : List ℕ
read_element_status = 0xB8 ∷ 0 ∷ 0 ∷ 0 ∷ 0xFF ∷ 0xFF ∷ 0 ∷ 0 ∷ 0x10 ∷ 0 ∷ 0 ∷ 0 ∷ []

-- the standard INQUIRY data of a drive
abbrev pub of_drive : List ℕ
of_drive =
    0x01 ∷ 0x80 ∷ 0x06 ∷ 0x02 ∷ 0x1F ∷ 0 ∷ 0 ∷ 0 ∷ codes "VTLIB   " ++ codes "TAPE DRIVE      " ++ codes "0001"

pub record UnitLines : Type 0 where
  pub drive : said (inquiry 0 0) of_drive
      ≡ line (codes "# GOOD, tape drive, connected, vendor \"VTLIB\", product \"TAPE DRIVE\", revision \"0001\"")
  pub drive_cut : said (inquiry 0 0) (take 31 of_drive) ≡ line (codes "# GOOD, tape drive, connected, vendor \"VTLIB\", cut")
  pub kind_alone : said_by_changer (inquiry 0 0) (0x08 ∷ []) ≡ line (codes "# GOOD, medium changer, connected, cut")
  -- a unit that doesn't exist
  pub no_unit : said (inquiry 0 0) (0x7F ∷ 0 ∷ 0x06 ∷ 0x02 ∷ 0x1F ∷ 0 ∷ 0 ∷ 0 ∷ replicate 28 0x20)
      ≡ line (codes "# GOOD, no device, not supported, vendor \"\", product \"\", revision \"\"")
  -- another server's, which may send any bytes
  pub other_type : said (inquiry 0 0) (0x25 ∷ 0 ∷ 0x06 ∷ 0x02 ∷ 11 ∷ 0 ∷ 0 ∷ 0 ∷ codes "AB" ++ 10 ∷ 0x7E ∷ 0x7F ∷ 0xFF ∷ 0x20 ∷ 0x20 ∷ [])
      ≡ line (codes "# GOOD, device type 05h, not connected, vendor \"AB.~..\"")
  pub serial_number : said (inquiry 1 0x80) (0x01 ∷ 0x80 ∷ 0 ∷ 4 ∷ codes "0001") ≡ line (codes "# GOOD, page 80h, length 4")
  pub page_cut : said (inquiry 1 0x80) (0x01 ∷ 0x80 ∷ 0 ∷ 4 ∷ codes "00") ≡ line (codes "# GOOD, page 80h, length 4, cut")
  pub page_header_cut : said (inquiry 1 0x80) (0x01 ∷ 0x80 ∷ 0 ∷ []) ≡ line (codes "# GOOD, page 80h, cut")
  pub two_luns : said report_luns (big 4 16 ++ big 4 0 ++ big 8 0 ++ big 8 0x0001000000000000) ≡ line (codes "# GOOD, LUNs 0 1")
  pub lun_of_two_levels : said report_luns (big 4 8 ++ big 4 0 ++ big 8 0x0001000200000000)
      ≡ line (codes "# GOOD, LUNs 0001000200000000")
  pub no_luns : said report_luns (replicate 8 0) ≡ line (codes "# GOOD, no LUNs")
  pub luns_cut : said report_luns (big 4 16 ++ big 4 0 ++ big 8 0 ++ big 2 1) ≡ line (codes "# GOOD, LUNs 0, cut")

pub record DriveLines : Type 0 where
  pub at_the_start : said read_position (0x80 ∷ replicate 19 0) ≡ line (codes "# GOOD, beginning of partition, logical object 0")
  -- after one block and one filemark were written
  pub further_on : said read_position (big 4 0 ++ big 4 2 ++ big 4 2 ++ big 8 0) ≡ line (codes "# GOOD, logical object 2")
  pub position_cut : said read_position (big 4 0 ++ big 3 0) ≡ line (codes "# GOOD, cut")
  pub block_length : said mode_sense (big 4 0x0B000008 ++ big 8 0x200) ≡ line (codes
      "# GOOD, medium type 00h, density 00h, block length 512")
  -- of a protected volume, without a block descriptor
  pub protected : said mode_sense (big 4 0x03008000) ≡ line (codes "# GOOD, medium type 00h, write protected")
  pub mode_cut : said mode_sense (take 11 (big 4 0x0B008008 ++ big 8 0x200)) ≡ line (codes "# GOOD, medium type 00h, write protected, cut")
  pub block : said (0x08 ∷ 0 ∷ 0 ∷ 0 ∷ 4 ∷ 0 ∷ []) (big 4 0x01020304) ≡ line (codes "# GOOD, 4 bytes")
  -- two commands of one byte that is no operation code
  pub no_command : said (0xFF ∷ []) (0 ∷ []) ≡ line (codes "# GOOD, 1 byte")
  -- a command of changers alone isn't a drive's, nor one of drives alone a changer's
  pub of_changers : said read_element_status (replicate 8 0) ≡ line (codes "# GOOD, 8 bytes")
  pub of_drives : said_by_changer read_position (replicate 20 0) ≡ line (codes "# GOOD, 20 bytes")

-- a page of element status: its type, PVOLTAG, the length of a descriptor and of all, and the descriptors
abbrev pub page : (type flags size bytes : ℕ) → List ℕ → List ℕ
page type flags size bytes descriptors = type ∷ flags ∷ big 2 size ++ big 4 bytes ++ descriptors

-- a descriptor without a volume tag
abbrev pub element : (address flags : ℕ) → List ℕ
element address flags = big 2 address ++ flags ∷ replicate 13 0

-- one with a volume tag
abbrev pub tagged : (address flags : ℕ) → (tag : List ℕ) → List ℕ
tagged address flags tag = big 2 address ++ flags ∷ replicate 9 0 ++ tag ++ replicate 8 0

pub record ElementLines : Type 0 where
  -- one drive, two storage elements, and one volume
  pub elements : said_by_changer read_element_status (big 4 4 ++ big 4 0x58
      ++ page 1 0 16 16 (element 0 0) ++ page 4 0 16 16 (element 0x100 0x08) ++ page 2 0 16 32 (element 0x400 0x09 ++ element 0x401 0x08))
      ≡ line (codes "# GOOD, 0000h medium transport empty, 0100h data transfer empty, 0400h storage full, 0401h storage empty")
  pub tags : said_by_changer read_element_status (big 4 0x04000002 ++ big 4 112
      ++ page 2 0x80 52 104 (tagged 0x400 0x09 (codes "VOL00001" ++ replicate 24 0x20) ++ tagged 0x401 0x08 (replicate 32 0)))
      ≡ line (codes "# GOOD, 0400h storage full \"VOL00001\", 0401h storage empty")
  pub portal : said_by_changer read_element_status (big 4 0x02000001 ++ big 4 24 ++ page 3 0 16 16 (element 0x200 0x38))
      ≡ line (codes "# GOOD, 0200h import/export empty")
  pub none : said_by_changer read_element_status (replicate 8 0) ≡ line (codes "# GOOD, no elements")
  pub elements_cut : said_by_changer read_element_status (big 4 4 ++ big 4 0x58
      ++ page 1 0 16 16 (element 0 0) ++ take 20 (page 4 0 16 16 (element 0x100 0x08)))
      ≡ line (codes "# GOOD, 0000h medium transport empty, cut")
