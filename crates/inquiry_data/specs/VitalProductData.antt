-- Vital product data (SPC-4, "Vital product data parameters"; SSC-4, "Vital product data parameters").
use Rattle.std.specs.Prelude.{◌≡◌, ℕ, ◌<◌, ◌==◌, List, [], ◌∷◌, ◌++◌, length, map, find, replicate, Option, Some, None, is_some}
use Rattle.std.specs.List.{list_any}
use Rattle.std.specs.List.Sorted.{IsStrictlyIncreasing}
use Rattle.std.specs.Int.{w16, to_be_bytes}
use Rattle.scsi_cdb.specs.declared.kind.Kind.{Kind}
use Rattle.scsi_cdb.specs.declared.kind.Kind.TheVariants.{Drive, Changer}
use Rattle.inquiry_data.specs.declared.page.VitalProductPage.{VitalProductPage}
use Rattle.inquiry_data.specs.declared.page.VitalProductPage.TheVariants.{SupportedPages, UnitSerialNumber, DeviceIdentification, ExtendedInquiryData, ModePagePolicy, SequentialAccessDeviceCapabilities, ManufacturerAssignedSerialNumber, TapeAlertSupportedFlags, AutomationDeviceSerialNumber, DataTransferDeviceElementAddress}
use Rattle.inquiry_data.specs.declared.inquiry_context.InquiryContext.{InquiryContext}
use Rattle.inquiry_data.specs.Identity.{serial_number, changer_of}
use Rattle.inquiry_data.specs.Standard.{peripheral_device_type}
use Rattle.inquiry_data.specs.Designators.{naa_designation, t10_vendor_id_designation, relative_port_designation}

-- PAGE CODE
abbrev pub page_code : VitalProductPage → ℕ
page_code SupportedPages = 0x00
page_code UnitSerialNumber = 0x80
page_code DeviceIdentification = 0x83
page_code ExtendedInquiryData = 0x86
page_code ModePagePolicy = 0x87
page_code SequentialAccessDeviceCapabilities = 0xB0
page_code ManufacturerAssignedSerialNumber = 0xB1
page_code TapeAlertSupportedFlags = 0xB2
page_code AutomationDeviceSerialNumber = 0xB3
page_code DataTransferDeviceElementAddress = 0xB4

-- the pages that every unit has, and those of drives alone
abbrev pub pages_of_units : List VitalProductPage
pages_of_units = SupportedPages ∷ UnitSerialNumber ∷ DeviceIdentification ∷ ExtendedInquiryData ∷ ModePagePolicy ∷ []

abbrev pub pages_of_drives : List VitalProductPage
pages_of_drives =
    SequentialAccessDeviceCapabilities ∷ ManufacturerAssignedSerialNumber ∷ TapeAlertSupportedFlags ∷ AutomationDeviceSerialNumber
    ∷ DataTransferDeviceElementAddress ∷ []

abbrev pub pages_of : Kind → List VitalProductPage
pages_of Drive = pages_of_units ++ pages_of_drives
pages_of Changer = pages_of_units

-- the page of a code among some, and among those of the unit
abbrev pub page_among : List VitalProductPage → (code : ℕ) → Option VitalProductPage
page_among pages code = find (λ page. page_code page == code) pages

abbrev pub page_at : Kind → (code : ℕ) → Option VitalProductPage
page_at kind code = page_among (pages_of kind) code

-- the codes of all pages of the unit (SPC-4, "Supported VPD Pages VPD page")
abbrev pub supported_pages : Kind → List ℕ
supported_pages kind = map page_code (pages_of kind)

-- the unit by its own number, by its vendor's, and the port that the command came by (SPC-4, "Device Identification VPD page")
abbrev pub device_identification : Kind → InquiryContext → List ℕ
device_identification kind context =
    naa_designation context.identity ++ t10_vendor_id_designation kind context.identity ++ relative_port_designation context.target_port

-- SIMPSUP, simple task attributes: bit 0 of byte 5 of the page; LUICLR: bit 0 of byte 7; MAXIMUM SUPPORTED SENSE DATA LENGTH, 18: byte 13
-- (SPC-4, "Extended INQUIRY Data VPD page")
abbrev pub extended_inquiry_data : List ℕ
extended_inquiry_data = 0x00 ∷ 0x01 ∷ 0x00 ∷ 0x01 ∷ 0x00 ∷ 0x00 ∷ 0x00 ∷ 0x00 ∷ 0x00 ∷ 0x12 ∷ replicate 50 0

-- all mode pages with all subpages are shared (SPC-4, "Mode Page Policy VPD page")
abbrev pub mode_page_policy : List ℕ
mode_page_policy = 0x3F ∷ 0xFF ∷ 0x00 ∷ 0x00 ∷ []

-- WORM 0 (SSC-4, "Sequential-access Device Capabilities VPD page")
abbrev pub device_capabilities : List ℕ
device_capabilities = 0x00 ∷ 0x00 ∷ []

-- a bit for each of 64 flags, and none can be set (SSC-4, "TapeAlert Supported Flags VPD page")
abbrev pub supported_flags : List ℕ
supported_flags = replicate 8 0

-- what follows the header of a page
abbrev pub content_of : Kind → InquiryContext → VitalProductPage → List ℕ
content_of kind context SupportedPages = supported_pages kind
content_of kind context UnitSerialNumber = serial_number context.identity
content_of kind context DeviceIdentification = device_identification kind context
content_of kind context ExtendedInquiryData = extended_inquiry_data
content_of kind context ModePagePolicy = mode_page_policy
content_of kind context SequentialAccessDeviceCapabilities = device_capabilities
content_of kind context ManufacturerAssignedSerialNumber = serial_number context.identity
content_of kind context TapeAlertSupportedFlags = supported_flags
content_of kind context AutomationDeviceSerialNumber = serial_number (changer_of context.identity)
content_of kind context DataTransferDeviceElementAddress = to_be_bytes w16 context.element_address

-- the header: PERIPHERAL DEVICE TYPE, PAGE CODE, and PAGE LENGTH in two bytes, which is the length of what follows
abbrev pub with_header : Kind → VitalProductPage → List ℕ → List ℕ
with_header kind page content = peripheral_device_type kind ∷ page_code page ∷ (to_be_bytes w16 (length content) ++ content)

abbrev pub page_data : Kind → InquiryContext → VitalProductPage → List ℕ
page_data kind context page = with_header kind page (content_of kind context page)

abbrev pub data_of_page : Kind → InquiryContext → Option VitalProductPage → Option (List ℕ)
data_of_page kind context None = None
data_of_page kind context (Some page) = Some (page_data kind context page)

-- the page of a code; none where the unit hasn't got it
abbrev pub vital_product_page : Kind → InquiryContext → (code : ℕ) → Option (List ℕ)
vital_product_page kind context code = data_of_page kind context (page_at kind code)

-- a unit answers the pages that it lists and no other
abbrev pub ListedPagesAreAnswered : Type 0
ListedPagesAreAnswered = (kind : Kind) (context : InquiryContext) (code : ℕ)
    → is_some (vital_product_page kind context code) ≡ list_any (λ listed. listed == code) (supported_pages kind)

-- the codes are listed in ascending order, and there are few enough for a host that keeps room for 36 bytes of the page
abbrev pub ListsAscend : Type 0
ListsAscend = (kind : Kind) → IsStrictlyIncreasing (supported_pages kind) × (length (supported_pages kind) < 33)
