-- The mode pages of a medium changer (SPC-4, "Mode parameters"; SMC-3, "Mode parameters"), each to the byte.
use Rattle.std.specs.Prelude.{ℕ, ◌==◌, Bool, true, false, not, if◌then◌else◌, List, [], ◌∷◌, ◌++◌, replicate, Option, Some, None}
use Rattle.scsi_cdb.specs.Bytes.{two}
use Rattle.mode_pages.specs.declared.changer_page.ChangerPage.{ChangerPage}
use Rattle.mode_pages.specs.declared.changer_page.ChangerPage.TheVariants.{Control, InformationalExceptionsControl, ElementAddressAssignment, TransportGeometryParameters, DeviceCapabilities}
use Rattle.mode_pages.specs.declared.elements.ElementAddresses.{ElementAddresses}
use Rattle.mode_pages.specs.declared.elements.ElementRange.{ElementRange}

-- the pages, ascending by page code; none has a subpage
abbrev pub changer_pages : List ChangerPage
changer_pages =
    Control ∷ InformationalExceptionsControl ∷ ElementAddressAssignment ∷ TransportGeometryParameters ∷ DeviceCapabilities ∷ []

abbrev pub page_code : ChangerPage → ℕ
page_code Control = 0x0A
page_code InformationalExceptionsControl = 0x1C
page_code ElementAddressAssignment = 0x1D
page_code TransportGeometryParameters = 0x1E
page_code DeviceCapabilities = 0x1F

-- PAGE LENGTH: how many bytes follow the first two
abbrev pub page_length : ChangerPage → ℕ
page_length Control = 0x0A
page_length InformationalExceptionsControl = 0x0A
page_length ElementAddressAssignment = 0x12
page_length TransportGeometryParameters = 0x02
page_length DeviceCapabilities = 0x12

-- the page of a page code, where there is one
abbrev pub page_of_code : ℕ → Option ChangerPage
page_of_code code =
    if code == 0x0A then Some Control
    else if code == 0x1C then Some InformationalExceptionsControl
    else if code == 0x1D then Some ElementAddressAssignment
    else if code == 0x1E then Some TransportGeometryParameters
    else if code == 0x1F then Some DeviceCapabilities
    else None

-- the first address and the number of the elements of a type
abbrev pub assigned : ElementRange → List ℕ
assigned range = two range.first ++ two range.count

-- whether there are import/export elements
abbrev pub has_import_export : ElementAddresses → Bool
has_import_export elements = not (elements.import_export.count == 0)

-- Sets of element types, data transfer 8, import/export 4 and storage 2: those that hold volumes, those that a volume of an import/export
-- element may be moved to, and those whose volume may be exchanged for that of a data transfer element.
abbrev pub holding_types : (import_export : Bool) → ℕ
holding_types true = 0x0E
holding_types false = 0x0A

abbrev pub types_from_import_export : (import_export : Bool) → ℕ
types_from_import_export true = 0x0E
types_from_import_export false = 0x00

abbrev pub types_exchanged_with_drive : (import_export : Bool) → ℕ
types_exchanged_with_drive true = 0x06
types_exchanged_with_drive false = 0x02

-- The element address assignment: medium transport, storage, import/export and data transfer elements.
abbrev pub address_assignment : ElementAddresses → List ℕ
address_assignment elements =
    0x1D ∷ 0x12 ∷ []
    ++ assigned elements.medium_transport
    ++ assigned elements.storage
    ++ assigned elements.import_export
    ++ assigned elements.data_transfer
    ++ 0x00 ∷ 0x00 ∷ []

-- The capabilities: the types that hold volumes; the reader of volume tags, and SMC-2's capabilities; moves from transport, storage,
-- import/export and data transfer elements; exchanges of the same.
abbrev pub capabilities : (import_export : Bool) → List ℕ
capabilities import_export =
    0x1F ∷ 0x12 ∷ holding_types import_export ∷ 0x03
    ∷ 0x00 ∷ holding_types import_export ∷ types_from_import_export import_export ∷ holding_types import_export
    ∷ 0 ∷ 0 ∷ 0 ∷ 0
    ∷ 0x00 ∷ holding_types import_export ∷ types_from_import_export import_export ∷ types_exchanged_with_drive import_export
    ∷ 0 ∷ 0 ∷ 0 ∷ 0 ∷ []

-- GLTSD; DEXCPT; the addresses; no rotation; the capabilities
abbrev pub page_values : ChangerPage → ElementAddresses → List ℕ
page_values Control elements = 0x0A ∷ 0x0A ∷ 0x02 ∷ replicate 9 0
page_values InformationalExceptionsControl elements = 0x1C ∷ 0x0A ∷ 0x08 ∷ 0x03 ∷ replicate 8 0
page_values ElementAddressAssignment elements = address_assignment elements
page_values TransportGeometryParameters elements = 0x1E ∷ 0x02 ∷ 0x00 ∷ 0x00 ∷ []
page_values DeviceCapabilities elements = capabilities (has_import_export elements)

-- no bit can be changed: a changer has no MODE SELECT
abbrev pub changeable_bits : ChangerPage → List ℕ
changeable_bits page = page_code page ∷ page_length page ∷ replicate (page_length page) 0
