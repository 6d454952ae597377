-- The data of the commands that every unit has, uncut: INQUIRY, REPORT LUNS and REQUEST SENSE.
use Rattle.std.specs.Prelude.{ℕ, zero, suc, ◌+◌, ◌*◌, ◌/◌, ◌%◌, ◌==◌, nat_lt, Bool, true, false, List, [], ◌∷◌, ◌++◌, replicate, codes, Option, None, Some, if◌then◌else◌}
use Rattle.scsi_cdb.specs.declared.kind.Kind.{Kind}
use Rattle.scsi_cdb.specs.declared.kind.Kind.TheVariants.{Drive, Changer}
use Rattle.scsi_sense.specs.declared.condition.Condition.{Condition}
use Rattle.scsi_sense.specs.Conditions.{sense_for}
use Rattle.scsi_sense.specs.FixedSense.{fixed_sense}
use Rattle.inquiry_data.specs.Inquiry as hosts
use Rattle.inquiry_data.specs.declared.inquiry_context.InquiryContext.{InquiryContext}
use Rattle.inquiry_data.specs.declared.unit_identity.UnitIdentity.{UnitIdentity}
use Rattle.device_server.specs.View.{DeviceView, kind_of, identity_of}

-- PERIPHERAL DEVICE TYPE, with the unit connected
abbrev pub device_type : Kind → ℕ
device_type Drive = 0x01
device_type Changer = 0x08

abbrev pub product : Kind → List ℕ
product Drive = codes "TAPE DRIVE      "
product Changer = codes "MEDIUM CHANGER  "

-- standard INQUIRY data (SPC-4, "Standard INQUIRY data"): a removable medium, version and format, the vendor, the product, the revision
abbrev pub standard_inquiry : Kind → List ℕ
standard_inquiry kind = device_type kind ∷ 0x80 ∷ 0x06 ∷ 0x02 ∷ 0x1F ∷ 0 ∷ 0 ∷ 0 ∷ (codes "VTLIB   " ++ product kind ++ codes "0001")

-- the pages that are offered (SPC-4, "Supported VPD Pages VPD page")
abbrev pub supported_pages : Kind → List ℕ
supported_pages kind = device_type kind ∷ 0x00 ∷ 0 ∷ 2 ∷ 0x00 ∷ 0x80 ∷ []

-- a number as four decimal digits
abbrev pub four_digits : ℕ → List ℕ
four_digits n = (48 + n / 1000 % 10) ∷ (48 + n / 100 % 10) ∷ (48 + n / 10 % 10) ∷ (48 + n % 10) ∷ []

-- the unit's number (SPC-4, "Unit Serial Number VPD page")
abbrev pub serial_number : Kind → ℕ → List ℕ
serial_number kind lun = device_type kind ∷ 0x80 ∷ 0 ∷ 4 ∷ four_digits lun

-- INQUIRY; none of a page that isn't offered
abbrev pub inquiry_data : Kind → (lun : ℕ) → (evpd : Bool) → (page : ℕ) → Option (List ℕ)
inquiry_data kind lun false page = if page == 0x00 then Some (standard_inquiry kind) else None
inquiry_data kind lun true page =
    if page == 0x00 then Some (supported_pages kind) else if page == 0x80 then Some (serial_number kind lun) else None

-- what INQUIRY of the hosts' profile tells a port: the unit's identity, and the address of a drive's element, 00FFh + its number (profile)
abbrev pub context_of : UnitIdentity → (lun port : ℕ) → InquiryContext
context_of identity lun port = record { identity = identity; target_port = port; element_address = 0xFF + lun }

abbrev pub identified_inquiry : Kind → InquiryContext → (evpd : Bool) → (page : ℕ) → Option (List ℕ)
identified_inquiry kind context evpd page = hosts.inquiry_data kind context evpd page

-- INQUIRY of a device, which comes by a port: by its identity, where it has one
abbrev pub inquiry_of : DeviceView → (lun port : ℕ) → (evpd : Bool) → (page : ℕ) → Option (List ℕ)
inquiry_of device lun port evpd page = elim (identity_of device) [
  | None ↦ inquiry_data (kind_of device) lun evpd page
  | Some identity ↦ identified_inquiry (kind_of device) (context_of identity lun port) evpd page
]

-- the logical units below a number, 8 bytes each
abbrev pub luns_below : ℕ → List ℕ
luns_below zero = []
luns_below (suc n) = luns_below n ++ 0 ∷ n ∷ replicate 6 0

-- REPORT LUNS (SPC-4, "REPORT LUNS command"): the length of the list, four reserved bytes, and the list
abbrev pub luns_data : ℕ → List ℕ
luns_data units = 0 ∷ 0 ∷ (8 * units / 256) ∷ (8 * units % 256) ∷ (replicate 4 0 ++ luns_below units)

-- with SELECT REPORT 1 none is listed, since there are no well known units; none of a value that isn't defined
abbrev pub selected_luns : (units select : ℕ) → Option (List ℕ)
selected_luns units select = if nat_lt 2 select then None else if select == 1 then Some (luns_data 0) else Some (luns_data units)

-- the sense of a condition, as REQUEST SENSE has it
abbrev pub sense_data : Condition → List ℕ
sense_data condition = fixed_sense (sense_for condition)

-- standard INQUIRY data of a unit that doesn't exist: no device can be connected there
abbrev pub absent_inquiry : List ℕ
absent_inquiry = 0x7F ∷ 0x00 ∷ 0x06 ∷ 0x02 ∷ 0x1F ∷ 0 ∷ 0 ∷ 0 ∷ replicate 28 0x20
