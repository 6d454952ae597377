-- From where the volume in each element came last (SMC-3, "READ ELEMENT STATUS command": SOURCE STORAGE ELEMENT ADDRESS; here of
-- import/export elements too, profile).
use Rattle.std.specs.Prelude.{ℕ, ◌≤◌, ◌<◌, ◌-◌, List, length, replicate, slice_index_or, slice_set, Option, Some, None, if◌then◌else◌}
use Rattle.tape_medium.specs.Elements.{first_data_transfer, first_import_export, first_storage, is_among}
use Rattle.element_map.specs.Limits.{drive_limit, portal_limit, slot_limit}
use Rattle.element_sources.specs.declared.place.Place.{Place}
use Rattle.element_sources.specs.declared.place.Place.TheVariants.{DataTransfer, ImportExport, Storage}

-- the address of the source of each element, in order of address within each type
pub record Sources : Type 0 where
  pub data_transfer : List (Option ℕ)
  pub import_export : List (Option ℕ)
  pub storage : List (Option ℕ)

pub record IsWithinLimits (data_transfer import_export storage : List (Option ℕ)) : Type 0 where
  pub drives : length data_transfer ≤ drive_limit
  pub import_exports : length import_export ≤ portal_limit
  pub slots : length storage ≤ slot_limit

-- of so many of each, none known
abbrev pub none_known : (data_transfer import_export storage : ℕ) → Sources
none_known data_transfer import_export storage =
    record { data_transfer = replicate data_transfer None; import_export = replicate import_export None; storage = replicate storage None }

-- the element with an address; the medium transport element has no source
abbrev pub place_at : Sources → (address : ℕ) → Option Place
place_at s address =
    if is_among first_data_transfer (length s.data_transfer) address then Some (DataTransfer (address - first_data_transfer))
    else if is_among first_import_export (length s.import_export) address then Some (ImportExport (address - first_import_export))
    else if is_among first_storage (length s.storage) address then Some (Storage (address - first_storage))
    else None

-- it is one of those that there are
abbrev pub IsPlace : Sources → Place → Type 0
IsPlace s (DataTransfer i) = i < length s.data_transfer
IsPlace s (ImportExport i) = i < length s.import_export
IsPlace s (Storage i) = i < length s.storage

abbrev pub source_at_place : Sources → Place → Option ℕ
source_at_place s (DataTransfer i) = slice_index_or s.data_transfer i None
source_at_place s (ImportExport i) = slice_index_or s.import_export i None
source_at_place s (Storage i) = slice_index_or s.storage i None

abbrev pub source_at_some : Sources → Option Place → Option ℕ
source_at_some s None = None
source_at_some s (Some place) = source_at_place s place

-- the source of the volume in the element with an address
abbrev pub source_at : Sources → (address : ℕ) → Option ℕ
source_at s address = source_at_some s (place_at s address)

-- the same, but for one element
abbrev pub source_set : Sources → Place → Option ℕ → Sources
source_set s (DataTransfer i) source = record s { data_transfer = slice_set s.data_transfer i source }
source_set s (ImportExport i) source = record s { import_export = slice_set s.import_export i source }
source_set s (Storage i) source = record s { storage = slice_set s.storage i source }

-- where the volume of an element was last outside a drive: there, or if it is in a drive where it is known to have been
abbrev pub last_outside : Sources → (address : ℕ) → Place → Option ℕ
last_outside s address (DataTransfer i) = slice_index_or s.data_transfer i None
last_outside s address (ImportExport i) = Some address
last_outside s address (Storage i) = Some address

-- a volume goes from one element to another
abbrev pub source_carried : Sources → (address : ℕ) → Option Place → Option Place → Sources
source_carried s address None to = s
source_carried s address (Some from) None = s
source_carried s address (Some from) (Some to) = source_set (source_set s from None) to (last_outside s address from)

-- A MOVE MEDIUM that was done; nothing changes where an address names none of the elements.
abbrev pub source_moved : Sources → (source destination : ℕ) → Sources
source_moved s source destination = source_carried s source (place_at s source) (place_at s destination)

-- two volumes go: the one at the first destination to the second, and the one at the source to the first
abbrev pub sources_crossed : Sources → (source first : ℕ) → (from between to : Option Place) → Sources
sources_crossed s source first None between to = s
sources_crossed s source first (Some from) None to = s
sources_crossed s source first (Some from) (Some between) None = s
sources_crossed s source first (Some from) (Some between) (Some to) =
    source_set (source_set (source_set s from None) between (last_outside s source from)) to (last_outside s first between)

-- An EXCHANGE MEDIUM that was done; nothing changes where an address names none of the elements.
abbrev pub source_exchanged : Sources → (source first second : ℕ) → Sources
source_exchanged s source first second = sources_crossed s source first (place_at s source) (place_at s first) (place_at s second)

-- a source that was known before
abbrev pub source_known_in : Sources → Option Place → (source : ℕ) → Sources
source_known_in s None source = s
source_known_in s (Some place) source = source_set s place (Some source)

-- At a start: the source of the volume in the element with an address; nothing changes where the address names none of the elements.
abbrev pub source_known : Sources → (address source : ℕ) → Sources
source_known s address source = source_known_in s (place_at s address) source
