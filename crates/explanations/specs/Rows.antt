-- Worked rows: whole lines. What isn't said otherwise is from a library with one drive.
use Rattle.std.specs.Prelude.{◌≡◌, ℕ, List, [], ◌∷◌, ◌++◌, replicate, take, codes, None, Some, Ok, Err}
use Rattle.std.specs.Int.{bytes_high_first}
use Rattle.scsi_sense.specs.FixedSense.{decoded_sense}
use Rattle.scsi_sense.specs.declared.status.Status.{Status}
use Rattle.scsi_sense.specs.declared.status.Status.TheVariants.{Good, CheckCondition, Busy, ReservationConflict}
use Rattle.scsi_cdb.specs.declared.kind.Kind.TheVariants.{Drive}
use Rattle.scsi_cdb.specs.declared.profile.Profile.TheVariants.{Spec}
use Rattle.scsi_cdb.specs.Kinds.{commands}
use Rattle.explanations.specs.Explanation.{explanation}

-- a text and a line feed
abbrev pub line : List ℕ → List ℕ
line text = text ++ 10 ∷ []

-- a number of so many bytes, the highest first
abbrev pub big : (count number : ℕ) → List ℕ
big count number = bytes_high_first count number

-- the line of a status alone
abbrev pub alone : Status → List ℕ
alone status = explanation (commands Spec Drive) (replicate 6 0) status None []

-- the line of CHECK CONDITION with 18 bytes of sense data, and data
abbrev pub checked : (sense payload : List ℕ) → List ℕ
checked sense payload = elim (decoded_sense sense) [
  | Ok sense ↦ explanation (commands Spec Drive) (0x08 ∷ replicate 5 0) CheckCondition (Some sense) payload
  | Err fault ↦ []
]

-- sense data: the first byte, the marks and the key, INFORMATION, and the two codes
abbrev pub sense : (first marks_and_key information asc ascq : ℕ) → List ℕ
sense first marks_and_key information asc ascq =
    first ∷ 0 ∷ marks_and_key ∷ big 4 information ++ 0x0A ∷ replicate 4 0 ++ asc ∷ ascq ∷ replicate 4 0

-- the line of GOOD with data, of a drive
abbrev pub said : (cdb payload : List ℕ) → List ℕ
said cdb payload = explanation (commands Spec Drive) cdb Good None payload

pub record StatusLines : Type 0 where
  pub good : alone Good ≡ line (codes "# GOOD")
  pub busy : alone Busy ≡ line (codes "# BUSY")
  pub conflict : alone ReservationConflict ≡ line (codes "# RESERVATION CONFLICT")
  pub check_alone : alone CheckCondition ≡ line (codes "# CHECK CONDITION")

pub record SenseLines : Type 0 where
  pub power_on : checked (sense 0x70 0x06 0 0x29 0x00) []
      ≡ line (codes "# CHECK CONDITION, UNIT ATTENTION: power on, reset, or bus device reset occurred")
  pub refused : checked (sense 0x70 0x05 0 0x24 0x00) [] ≡ line (codes "# CHECK CONDITION, ILLEGAL REQUEST: invalid field in cdb")
  -- a block of 400 bytes where 1,000 were asked for
  pub shorter : checked (sense 0xF0 0x20 600 0x00 0x00) (replicate 400 0xAB)
      ≡ line (codes "# CHECK CONDITION, NO SENSE: no additional sense information, incorrect length, 600 fewer than requested, 400 bytes")
  -- the same block where 300 were asked for
  pub longer : checked (sense 0xF0 0x20 0xFFFFFF9C 0x00 0x00) (replicate 300 0xAB)
      ≡ line (codes "# CHECK CONDITION, NO SENSE: no additional sense information, incorrect length, 100 more than requested, 300 bytes")
  pub filemark : checked (sense 0xF0 0x80 1000 0x00 0x01) []
      ≡ line (codes "# CHECK CONDITION, NO SENSE: filemark detected, at a filemark, 1000 fewer than requested")
  pub end_of_medium : checked (sense 0xF0 0x4D 1 0x00 0x02) []
      ≡ line (codes "# CHECK CONDITION, VOLUME OVERFLOW: end-of-partition/medium detected, at an end of the medium, 1 fewer than requested")
  -- MEDIUM ERROR, UNRECOVERED READ ERROR is no condition of the target's
  pub unknown : checked (sense 0x70 0x03 0 0x11 0x00) (0xAB ∷ []) ≡ line (codes "# CHECK CONDITION, SENSE KEY 03h: 11h/00h, 1 byte")

-- PERSISTENT RESERVE IN, by its service action
abbrev pub reserve_in : ℕ → List ℕ
reserve_in action = 0x5E ∷ action ∷ replicate 6 0 ++ 0xFF ∷ 0 ∷ []

-- a registration of 500000000000000Ah at port 1 with key 1, as READ FULL STATUS has it
abbrev pub of_a : (r_holder scope_type : ℕ) → List ℕ
of_a r_holder scope_type =
    big 8 1 ++ replicate 4 0 ++ r_holder ∷ scope_type ∷ replicate 4 0 ++ big 2 1 ++ big 4 24
    ++ 0x06 ∷ replicate 3 0 ++ big 8 0x500000000000000A ++ replicate 12 0

pub record ReservationLines : Type 0 where
  pub keys : said (reserve_in 0) (big 4 1 ++ big 4 8 ++ big 8 0x1122334455667788)
      ≡ line (codes "# GOOD, generation 1, keys 1122334455667788")
  pub two_keys : said (reserve_in 0) (big 4 2 ++ big 4 16 ++ big 8 0x1122334455667788 ++ big 8 0x99AABBCCDDEEFF00)
      ≡ line (codes "# GOOD, generation 2, keys 1122334455667788 99aabbccddeeff00")
  pub no_keys : said (reserve_in 0) (replicate 8 0) ≡ line (codes "# GOOD, generation 0, no keys")
  -- cut by an allocation length of 5, of 0, and of 12
  pub length_cut : said (reserve_in 0) (replicate 5 0) ≡ line (codes "# GOOD, generation 0, cut")
  pub no_data : said (reserve_in 0) [] ≡ line (codes "# GOOD")
  pub keys_cut : said (reserve_in 0) (big 4 2 ++ big 4 16 ++ big 4 0x11223344) ≡ line (codes "# GOOD, generation 2, keys, cut")
  pub generation_cut : said (reserve_in 0) (replicate 3 0) ≡ line (codes "# GOOD, cut")
  pub reserved : said (reserve_in 1) (big 4 3 ++ big 4 16 ++ big 8 7 ++ replicate 5 0 ++ 0x05 ∷ replicate 2 0)
      ≡ line (codes "# GOOD, generation 3, key 0000000000000007, type WERO")
  pub all_registrants : said (reserve_in 1) (big 4 3 ++ big 4 16 ++ big 8 0 ++ replicate 5 0 ++ 0x07 ∷ replicate 2 0)
      ≡ line (codes "# GOOD, generation 3, key 0000000000000000, type WEAR")
  pub unknown_type : said (reserve_in 1) (big 4 3 ++ big 4 16 ++ big 8 7 ++ replicate 5 0 ++ 0x15 ∷ replicate 2 0)
      ≡ line (codes "# GOOD, generation 3, key 0000000000000007, type 15h")
  pub nothing_reserved : said (reserve_in 1) (big 4 4 ++ big 4 0) ≡ line (codes "# GOOD, generation 4, no reservation")
  pub type_cut : said (reserve_in 1) (big 4 3 ++ big 4 16 ++ big 8 7) ≡ line (codes "# GOOD, generation 3, key 0000000000000007, cut")
  pub holder : said (reserve_in 3) (big 4 4 ++ big 4 48 ++ of_a 1 1)
      ≡ line (codes "# GOOD, generation 4, 500000000000000a.1 key 0000000000000001 holder WE")
  pub registered : said (reserve_in 3) (big 4 4 ++ big 4 48 ++ of_a 0 0)
      ≡ line (codes "# GOOD, generation 4, 500000000000000a.1 key 0000000000000001 registered")
  pub registration_cut : said (reserve_in 3) (big 4 4 ++ big 4 96 ++ of_a 0 0 ++ take 47 (of_a 1 1))
      ≡ line (codes "# GOOD, generation 4, 500000000000000a.1 key 0000000000000001 registered, cut")
  pub nobody : said (reserve_in 3) (replicate 8 0) ≡ line (codes "# GOOD, generation 0, no registrations")
  pub another_form : said (reserve_in 3) (big 4 4 ++ big 4 48 ++ replicate 48 0)
      ≡ line (codes "# GOOD, generation 4, registration of another form")
  -- REPORT CAPABILITIES is counted
  pub capabilities : said (reserve_in 2) (0x00 ∷ 0x08 ∷ 0x00 ∷ 0x80 ∷ 0xEA ∷ 0x01 ∷ 0x00 ∷ 0x00 ∷ []) ≡ line (codes "# GOOD, 8 bytes")
