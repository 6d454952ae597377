-- Worked rows: what a unit that doesn't exist answers, and what one that does says of itself, byte by byte.
use Rattle.std.specs.Prelude.{◌≡◌, ℕ, Bool, true, false, List, [], ◌∷◌, ◌++◌, replicate, None, Some}
use Rattle.scsi_cdb.specs.declared.kind.Kind.TheVariants.{Drive, Changer}
use Rattle.scsi_sense.specs.declared.status.Status.TheVariants.{Good, CheckCondition}
use Rattle.scsi_sense.specs.FixedSense.{fixed_sense}
use Rattle.inquiry_data.specs.Identity as identity
use Rattle.device_server.specs.HostDrive.{empty_host_drive}
use Rattle.device_server.specs.View.{DeviceView, kind_of, identity_of}
use Rattle.device_server.specs.View as device
use Rattle.judgement.specs.declared.reply.Reply.{Reply}
use Rattle.judgement.specs.Replies.{absent_answer, busy, conflict, good, AnswersAbsent}
use Rattle.judgement.specs.UnitData.{inquiry_data, inquiry_of, selected_luns}

-- the sense data of a reply as bytes, none where it has none
abbrev pub sense_bytes : Reply → List ℕ
sense_bytes reply = elim reply.sense [ None ↦ [] | Some sense ↦ fixed_sense sense ]

-- 25h/00h LOGICAL UNIT NOT SUPPORTED
abbrev pub not_supported : List ℕ
not_supported = 0x70 ∷ 0 ∷ 0x05 ∷ 0 ∷ 0 ∷ 0 ∷ 0 ∷ 0x0A ∷ 0 ∷ 0 ∷ 0 ∷ 0 ∷ 0x25 ∷ 0 ∷ 0 ∷ 0 ∷ 0 ∷ 0 ∷ []

-- CHECK CONDITION with these
abbrev pub refusal : Reply
refusal = record {
  status = CheckCondition;
  sense = Some (record { valid = false; filemark = false; eom = false; ili = false; key = 5; information = 0; asc = 0x25; ascq = 0 });
  payload = [];
  number = 0;
}

-- standard INQUIRY data of a place where no device can be connected
abbrev pub no_device : List ℕ
no_device = 0x7F ∷ 0 ∷ 0x06 ∷ 0x02 ∷ 0x1F ∷ 0 ∷ 0 ∷ 0 ∷ replicate 28 0x20

pub record AbsentUnit : Type 0 where
  -- INQUIRY is GOOD, cut at the allocation length, which has two bytes
  pub inquiry : (absent_answer (0x12 ∷ 0 ∷ 0 ∷ 0 ∷ 0x24 ∷ 0 ∷ [])).payload ≡ no_device
  pub inquiry_cut : (absent_answer (0x12 ∷ 0 ∷ 0 ∷ 0 ∷ 0x02 ∷ 0 ∷ [])).payload ≡ 0x7F ∷ 0 ∷ []
  pub inquiry_high_byte : (absent_answer (0x12 ∷ 0 ∷ 0 ∷ 0x01 ∷ 0x02 ∷ 0 ∷ [])).payload ≡ no_device
  pub inquiry_good : (absent_answer (0x12 ∷ 0 ∷ 0 ∷ 0 ∷ 0x24 ∷ 0 ∷ [])).status ≡ Good
  -- also of a page, with NACA: neither is looked at
  pub inquiry_of_a_page : (absent_answer (0x12 ∷ 0 ∷ 0x80 ∷ 0 ∷ 0x02 ∷ 0x04 ∷ [])).payload ≡ 0x7F ∷ 0 ∷ []
  -- of vital product data it is refused
  pub vital_product_data : sense_bytes (absent_answer (0x12 ∷ 0x01 ∷ 0 ∷ 0 ∷ 0x24 ∷ 0 ∷ [])) ≡ not_supported
  -- REQUEST SENSE is GOOD, with the sense as data, cut; NACA and DESC aren't looked at
  pub request_sense : (absent_answer (0x03 ∷ 0 ∷ 0 ∷ 0 ∷ 0x12 ∷ 0 ∷ [])).payload ≡ not_supported
  pub request_sense_cut : (absent_answer (0x03 ∷ 0 ∷ 0 ∷ 0 ∷ 0x03 ∷ 0 ∷ [])).payload ≡ 0x70 ∷ 0 ∷ 0x05 ∷ []
  pub request_sense_anyhow : (absent_answer (0x03 ∷ 0x01 ∷ 0 ∷ 0 ∷ 0x12 ∷ 0x04 ∷ [])).payload ≡ not_supported
  pub request_sense_good : (absent_answer (0x03 ∷ 0 ∷ 0 ∷ 0 ∷ 0x12 ∷ 0 ∷ [])).status ≡ Good
  -- all else is refused, REPORT LUNS and a CDB of five bytes too
  pub test_unit_ready : sense_bytes (absent_answer (replicate 6 0)) ≡ not_supported
  pub report_luns : sense_bytes (absent_answer (0xA0 ∷ 0 ∷ 0 ∷ 0 ∷ 0 ∷ 0 ∷ 0 ∷ 0 ∷ 0 ∷ 0xFF ∷ 0 ∷ 0 ∷ [])) ≡ not_supported
  pub short_inquiry : sense_bytes (absent_answer (0x12 ∷ 0 ∷ 0 ∷ 0 ∷ 0x24 ∷ [])) ≡ not_supported
  pub refused : (absent_answer (replicate 6 0)).status ≡ CheckCondition
  -- or BUSY, with no number, where data take memory: those of INQUIRY and REQUEST SENSE
  pub wants_memory : AnswersAbsent (0x12 ∷ 0 ∷ 0 ∷ 0 ∷ 0x24 ∷ 0 ∷ []) busy
  pub sense_wants_memory : AnswersAbsent (0x03 ∷ 0 ∷ 0 ∷ 0 ∷ 0x12 ∷ 0 ∷ []) busy
  pub wants_none : AnswersAbsent (replicate 6 0) busy → ⊥
  pub short_wants_none : AnswersAbsent (0x12 ∷ 0 ∷ 0 ∷ 0 ∷ 0x24 ∷ []) busy → ⊥
  pub no_conflict : AnswersAbsent (replicate 6 0) conflict → ⊥
  -- or that answer and no other
  pub answered : AnswersAbsent (replicate 6 0) refusal
  pub not_good : AnswersAbsent (replicate 6 0) (good []) → ⊥
  pub inquiry_not_refused : AnswersAbsent (0x12 ∷ 0 ∷ 0 ∷ 0 ∷ 0x24 ∷ 0 ∷ []) refusal → ⊥

-- what units that exist say of themselves, and which there are
pub record DataOfUnits : Type 0 where
  pub drive : inquiry_data Drive 1 false 0x00 ≡ Some
      (0x01 ∷ 0x80 ∷ 0x06 ∷ 0x02 ∷ 0x1F ∷ 0 ∷ 0 ∷ 0 ∷ 0x56 ∷ 0x54 ∷ 0x4C ∷ 0x49 ∷ 0x42 ∷ 0x20 ∷ 0x20 ∷ 0x20 ∷ 0x54 ∷ 0x41 ∷ 0x50 ∷ 0x45 ∷ 0x20 ∷ 0x44 ∷ 0x52 ∷ 0x49 ∷ 0x56 ∷ 0x45 ∷ 0x20 ∷ 0x20 ∷ 0x20 ∷ 0x20 ∷ 0x20 ∷ 0x20 ∷ 0x30 ∷ 0x30 ∷ 0x30 ∷ 0x31 ∷ [])
  pub changer : inquiry_data Changer 0 false 0x00 ≡ Some
      (0x08 ∷ 0x80 ∷ 0x06 ∷ 0x02 ∷ 0x1F ∷ 0 ∷ 0 ∷ 0 ∷ 0x56 ∷ 0x54 ∷ 0x4C ∷ 0x49 ∷ 0x42 ∷ 0x20 ∷ 0x20 ∷ 0x20 ∷ 0x4D ∷ 0x45 ∷ 0x44 ∷ 0x49 ∷ 0x55 ∷ 0x4D ∷ 0x20 ∷ 0x43 ∷ 0x48 ∷ 0x41 ∷ 0x4E ∷ 0x47 ∷ 0x45 ∷ 0x52 ∷ 0x20 ∷ 0x20 ∷ 0x30 ∷ 0x30 ∷ 0x30 ∷ 0x31 ∷ [])
  pub page_without_evpd : inquiry_data Drive 1 false 0x80 ≡ None
  pub pages : inquiry_data Drive 1 true 0x00 ≡ Some (0x01 ∷ 0x00 ∷ 0 ∷ 2 ∷ 0x00 ∷ 0x80 ∷ [])
  pub number : inquiry_data Changer 12 true 0x80 ≡ Some (0x08 ∷ 0x80 ∷ 0 ∷ 4 ∷ 0x30 ∷ 0x30 ∷ 0x31 ∷ 0x32 ∷ [])
  pub another_page : inquiry_data Drive 1 true 0x83 ≡ None
  pub luns : selected_luns 2 0 ≡ Some (0 ∷ 0 ∷ 0 ∷ 16 ∷ 0 ∷ 0 ∷ 0 ∷ 0 ∷ (0 ∷ 0 ∷ replicate 6 0 ++ 0 ∷ 1 ∷ replicate 6 0))
  pub well_known : selected_luns 2 1 ≡ Some (replicate 8 0)
  pub every_one : selected_luns 2 2 ≡ selected_luns 2 0
  pub undefined : selected_luns 2 3 ≡ None

-- a drive of the hosts' profile, by its number in library 1A2B3C4Dh
abbrev pub host_drive : (lun : ℕ) → DeviceView
host_drive lun = device.Drive (empty_host_drive (identity.unit (identity.library 0x1A2B3C4D) lun))

-- what units with an identity say of themselves, and that one without says what it always said
pub record InquiryByIdentity : Type 0 where
  -- 96 bytes of standard data
  pub drive : inquiry_of (host_drive 1) 1 1 false 0x00 ≡ Some
      (0x01 ∷ 0x80 ∷ 0x06 ∷ 0x02 ∷ 0x5B ∷ 0x00 ∷ 0x10 ∷ 0x02 ∷ 0x56 ∷ 0x54 ∷ 0x4C ∷ 0x49 ∷ 0x42 ∷ 0x20 ∷ 0x20 ∷ 0x20 ∷ 0x54 ∷ 0x41 ∷ 0x50 ∷ 0x45 ∷ 0x20 ∷ 0x44 ∷ 0x52 ∷ 0x49 ∷ 0x56 ∷ 0x45 ∷ 0x20 ∷ 0x20 ∷ 0x20 ∷ 0x20 ∷ 0x20 ∷ 0x20 ∷ 0x30 ∷ 0x30 ∷ 0x30 ∷ 0x31 ∷ (replicate 23 0 ++ 0xA0 ∷ 0x04 ∷ 0x60 ∷ 0x05 ∷ 0x20 ∷ 0x09 ∷ 0x60 ∷ replicate 30 0))
  -- the address of its element: 0100h of the first drive, 0103h of the fourth
  pub first_address : inquiry_of (host_drive 1) 1 1 true 0xB4 ≡ Some (0x01 ∷ 0xB4 ∷ 0 ∷ 2 ∷ 0x01 ∷ 0x00 ∷ [])
  pub fourth_address : inquiry_of (host_drive 4) 4 1 true 0xB4 ≡ Some (0x01 ∷ 0xB4 ∷ 0 ∷ 2 ∷ 0x01 ∷ 0x03 ∷ [])
  pub page_without_evpd : inquiry_of (host_drive 1) 1 1 false 0x80 ≡ None
  pub another_page : inquiry_of (host_drive 1) 1 1 true 0xC0 ≡ None
  pub without : (device : DeviceView) (lun port : ℕ) (evpd : Bool) (page : ℕ) → identity_of device ≡ None
      → inquiry_of device lun port evpd page ≡ inquiry_data (kind_of device) lun evpd page
