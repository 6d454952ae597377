use Rattle.std.specs.Prelude.{◌≡◌, ℕ, ◌+◌, ◌-◌, ◌<◌, ◌≤◌, nat_lt, Option, Some, None, IfSome, if◌then◌else◌}
use Rattle.tape_medium.specs.Elements.{first_data_transfer, first_import_export, first_storage, is_among}
use Rattle.library_inventory.specs.declared.element.Element.{Element}
use Rattle.library_inventory.specs.declared.element.Element.TheVariants.{DataTransfer, Storage, ImportExport}
use Rattle.library_inventory.specs.declared.element.LibrarySize.{LibrarySize}

-- a library of this size has the element
abbrev pub IsElementOf : LibrarySize → Element → Type 0
IsElementOf size (DataTransfer number) = number < size.drives
IsElementOf size (Storage number) = number < size.slots
IsElementOf size (ImportExport number) = number < size.import_exports

-- the same of an element that is no drive
abbrev pub IsOutsideDrives : LibrarySize → Element → Type 0
IsOutsideDrives size (DataTransfer number) = ⊥
IsOutsideDrives size (Storage number) = number < size.slots
IsOutsideDrives size (ImportExport number) = number < size.import_exports

-- a volume in a drive has a source if it is known, which is the element where it was last outside drives; another volume has none
abbrev pub IsSourceAt : LibrarySize → Element → (source : Option Element) → Type 0
IsSourceAt size (DataTransfer number) source = IfSome source (IsOutsideDrives size)
IsSourceAt size (Storage number) source = source ≡ None
IsSourceAt size (ImportExport number) source = source ≡ None

-- the address of an element (SMC-3, "Element addresses"; where they begin: profile)
abbrev pub element_address : Element → ℕ
element_address (DataTransfer number) = first_data_transfer + number
element_address (Storage number) = first_storage + number
element_address (ImportExport number) = first_import_export + number

-- in 16 bits, if it has so many
abbrev pub address_of : Element → Option ℕ
address_of element = if nat_lt (element_address element) 0x10000 then Some (element_address element) else None

-- the element with an address, if it is one of the library and no drive
abbrev pub outside_drives_at : LibrarySize → (address : ℕ) → Option Element
outside_drives_at size address =
    if is_among first_import_export size.import_exports address then Some (ImportExport (address - first_import_export))
    else if is_among first_storage size.slots address then Some (Storage (address - first_storage))
    else None

-- an element is found by its address
abbrev pub AddressesReadBack : Type 0
AddressesReadBack = (size : LibrarySize) (element : Element) → size.import_exports ≤ 16 → IsOutsideDrives size element
    → outside_drives_at size (element_address element) ≡ Some element
