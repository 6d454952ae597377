-- Designation descriptors (SPC-4, "Device Identification VPD page").
use Rattle.std.specs.Prelude.{ℕ, List, [], ◌∷◌, ◌++◌, length, codes}
use Rattle.std.specs.Int.{w16, w32, to_be_bytes}
use Rattle.scsi_cdb.specs.declared.kind.Kind.{Kind}
use Rattle.scsi_cdb.specs.declared.kind.Kind.TheVariants.{Drive}
use Rattle.inquiry_data.specs.declared.unit_identity.UnitIdentity.{UnitIdentity}
use Rattle.inquiry_data.specs.Identity.{serial_number}
use Rattle.inquiry_data.specs.Standard.{vendor_identification, product_identification}

-- CODE SET: byte 0
abbrev pub binary : ℕ
binary = 0x01

abbrev pub ascii : ℕ
ascii = 0x02

-- ASSOCIATION, bits 5 and 4 of byte 1, and DESIGNATOR TYPE, bits 3 to 0
abbrev pub t10_vendor_id_of_unit : ℕ
t10_vendor_id_of_unit = 0x01

abbrev pub naa_of_unit : ℕ
naa_of_unit = 0x03

abbrev pub relative_port_of_target_port : ℕ
relative_port_of_target_port = 0x14

-- the header, a reserved byte in it and the DESIGNATOR LENGTH at its end, then the designator
abbrev pub designation : (code_set association_and_type : ℕ) → List ℕ → List ℕ
designation code_set association_and_type designator = code_set ∷ association_and_type ∷ 0x00 ∷ length designator ∷ designator

-- NAA 3h, locally assigned, since there is no company identifier to use: the value of 60 bits is four zero bits, VT, the library's number
-- and the logical unit number (profile)
abbrev pub naa_designation : UnitIdentity → List ℕ
naa_designation identity =
    designation binary naa_of_unit (0x30 ∷ (codes "VT" ++ to_be_bytes w32 identity.library_number.number ++ identity.lun ∷ []))

-- T10 vendor identification: the vendor, the product and the serial number
abbrev pub t10_vendor_id_designation : Kind → UnitIdentity → List ℕ
t10_vendor_id_designation kind identity =
    designation ascii t10_vendor_id_of_unit (vendor_identification ++ product_identification kind ++ serial_number identity)

-- the target port that the command came by: two obsolete bytes, then the RELATIVE TARGET PORT IDENTIFIER
abbrev pub relative_port_designation : (target_port : ℕ) → List ℕ
relative_port_designation target_port =
    designation binary relative_port_of_target_port (0x00 ∷ 0x00 ∷ to_be_bytes w16 target_port)

-- the device identifier of a drive in READ ELEMENT STATUS with DVCID (SMC-3, "READ ELEMENT STATUS command"): the second descriptor of the
-- drive's own page
abbrev pub device_identifier : UnitIdentity → List ℕ
device_identifier identity = t10_vendor_id_designation Drive identity
