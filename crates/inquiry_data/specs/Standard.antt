-- Standard INQUIRY data (SPC-4, "Standard INQUIRY data"), field by field.
use Rattle.std.specs.Prelude.{ℕ, List, [], ◌∷◌, ◌++◌, replicate, codes}
use Rattle.scsi_cdb.specs.declared.kind.Kind.{Kind}
use Rattle.scsi_cdb.specs.declared.kind.Kind.TheVariants.{Drive, Changer}

-- PERIPHERAL QUALIFIER 0, a device is connected, and PERIPHERAL DEVICE TYPE: sequential-access device, media changer
abbrev pub peripheral_device_type : Kind → ℕ
peripheral_device_type Drive = 0x01
peripheral_device_type Changer = 0x08

-- RMB: bit 7
abbrev pub removable_medium : ℕ
removable_medium = 0x80

-- SPC-4
abbrev pub version : ℕ
version = 0x06

-- bits 3 to 0; NORMACA and HISUP, above them, are 0
abbrev pub response_data_format : ℕ
response_data_format = 0x02

-- how many bytes follow the byte of this field, the fifth, of 96 bytes in all
abbrev pub additional_length : ℕ
additional_length = 0x5B

-- TPGS and the other fields of byte 5: 0, so no target port groups are reported
abbrev pub no_target_port_groups : ℕ
no_target_port_groups = 0x00

-- MULTIP, bit 4 of byte 6. MCHNGR, bit 3, is 0 for a drive too: a host would take the drive for one with a changer of its own.
abbrev pub multiple_ports : ℕ
multiple_ports = 0x10

-- CMDQUE, bit 1 of byte 7
abbrev pub command_queuing : ℕ
command_queuing = 0x02

-- T10 VENDOR IDENTIFICATION, 8 characters
abbrev pub vendor_identification : List ℕ
vendor_identification = codes "VTLIB   "

-- PRODUCT IDENTIFICATION, 16 characters
abbrev pub product_identification : Kind → List ℕ
product_identification Drive = codes "TAPE DRIVE      "
product_identification Changer = codes "MEDIUM CHANGER  "

-- PRODUCT REVISION LEVEL, 4 characters
abbrev pub product_revision_level : List ℕ
product_revision_level = codes "0001"

-- the last of 20 vendor specific bytes, byte 55: whether the changer has a bar code reader, in bit 0 (profile)
abbrev pub bar_code_reader : Kind → ℕ
bar_code_reader Drive = 0x00
bar_code_reader Changer = 0x01

abbrev pub vendor_specific : Kind → List ℕ
vendor_specific kind = replicate 19 0 ++ bar_code_reader kind ∷ []

-- VERSION DESCRIPTORS, of two bytes each, and none of a version of a standard: SAM-5, SPC-4, SSC-4 or SMC-3, iSCSI; four of eight places
-- are empty
abbrev pub command_set : Kind → List ℕ
command_set Drive = 0x05 ∷ 0x20 ∷ []
command_set Changer = 0x04 ∷ 0x80 ∷ []

abbrev pub version_descriptors : Kind → List ℕ
version_descriptors kind = 0x00 ∷ 0xA0 ∷ 0x04 ∷ 0x60 ∷ (command_set kind ++ 0x09 ∷ 0x60 ∷ replicate 8 0)

-- the whole; two reserved bytes are before the version descriptors, and 22 after them
abbrev pub standard_inquiry : Kind → List ℕ
standard_inquiry kind =
    peripheral_device_type kind ∷ removable_medium ∷ version ∷ response_data_format ∷ additional_length
    ∷ no_target_port_groups ∷ multiple_ports ∷ command_queuing
    ∷ (vendor_identification ++ product_identification kind ++ product_revision_level ++ vendor_specific kind
    ++ replicate 2 0 ++ version_descriptors kind ++ replicate 22 0)
