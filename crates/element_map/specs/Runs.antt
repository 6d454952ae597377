use Rattle.std.specs.Prelude.{ℕ, ◌+◌, ◌-◌, ◌*◌, ◌≤◌, Bool, ◌||◌, ◌==◌, List, [], ◌∷◌, ◌++◌, length, take, drop, map, min, Option, None, if◌then◌else◌}
use Rattle.tape_medium.specs.declared.volume.VolumeTag.{VolumeTag}
use Rattle.tape_medium.specs.Elements.{Elements, tag_of, first_data_transfer, first_import_export, first_storage}
use Rattle.tape_medium.specs.ElementStatus.{Reported, of_type, descriptor_length}
use Rattle.element_map.specs.declared.element_type.ElementType.{ElementType}
use Rattle.element_map.specs.declared.element_type.ElementType.TheVariants.{MediumTransport, DataTransfer, ImportExport, Storage}
use Rattle.element_map.specs.declared.run.Run.{Run}
use Rattle.element_map.specs.declared.report.Report.{Report}

-- The elements that READ ELEMENT STATUS reports, as a run of consecutive ones of each type.

abbrev pub code_of : ElementType → ℕ
code_of MediumTransport = 1
code_of DataTransfer = 4
code_of ImportExport = 3
code_of Storage = 2

abbrev pub first_of : ElementType → ℕ
first_of MediumTransport = 0
first_of DataTransfer = first_data_transfer
first_of ImportExport = first_import_export
first_of Storage = first_storage

-- how many elements of a type there are; the one medium transport element is always there
abbrev pub count_of : Elements → ElementType → ℕ
count_of e MediumTransport = 1
count_of e DataTransfer = length e.data_transfer
count_of e ImportExport = length e.import_export
count_of e Storage = length e.storage

-- FULL, ACCESS, and EXENAB with INENAB, as the type has them
abbrev pub flags_in : ElementType → Bool → ℕ
flags_in MediumTransport full = if full then 0x01 else 0
flags_in DataTransfer full = (if full then 0x01 else 0) + 0x08
flags_in ImportExport full = (if full then 0x01 else 0) + 0x38
flags_in Storage full = (if full then 0x01 else 0) + 0x08

-- the tags in the elements of a type; the medium transport element is empty
abbrev pub tags_of : Elements → ElementType → List (Option VolumeTag)
tags_of e MediumTransport = None ∷ []
tags_of e DataTransfer = e.data_transfer
tags_of e ImportExport = map tag_of e.import_export
tags_of e Storage = map tag_of e.storage

-- the elements of a type from the number `from` on, `count` of them
abbrev pub in_run : Elements → ElementType → ℕ → ℕ → List Reported
in_run e type from count = of_type (code_of type) (first_of type + from) (take count (drop from (tags_of e type)))

-- the number of the first of `number` elements of a type that lies at an address or behind it, at most `number`
abbrev pub from_address : ElementType → ℕ → ℕ → ℕ
from_address type number start = min (start - first_of type) number

-- how many elements of a type are reported: those from an address on where the type is asked for, at most `count`
abbrev pub count_from : ℕ → ElementType → ℕ → ℕ → ℕ → ℕ
count_from type_code type number start count =
    if type_code == 0 || code_of type == type_code then min count (number - (start - first_of type)) else 0

-- the bytes of a page with so many descriptors
abbrev pub page_length : Bool → ℕ → ℕ
page_length voltag count = if count == 0 then 0 else 8 + count * descriptor_length voltag

-- all runs in order of address
abbrev pub in_report : Elements → Report → List Reported
in_report e r =
    in_run e MediumTransport r.medium_transport.from r.medium_transport.count
    ++ in_run e DataTransfer r.data_transfer.from r.data_transfer.count
    ++ in_run e ImportExport r.import_export.from r.import_export.count
    ++ in_run e Storage r.storage.from r.storage.count

abbrev pub number_in : Report → ℕ
number_in r = r.medium_transport.count + r.data_transfer.count + r.import_export.count + r.storage.count

abbrev pub length_in : Bool → Report → ℕ
length_in voltag r =
    page_length voltag r.medium_transport.count + page_length voltag r.data_transfer.count
    + page_length voltag r.import_export.count + page_length voltag r.storage.count

-- the address of the first element of a run, or else `other`
abbrev pub first_in : ElementType → Run → ℕ → ℕ
first_in type run other = if run.count == 0 then other else first_of type + run.from

abbrev pub first_of_report : Report → ℕ
first_of_report r =
    first_in MediumTransport r.medium_transport (first_in DataTransfer r.data_transfer (first_in ImportExport r.import_export (first_in Storage r.storage 0)))

-- the elements of each run are there
abbrev pub IsRun : Elements → ElementType → Run → Type 0
IsRun e type run = run.from + run.count ≤ length (tags_of e type)

pub record IsReport (e : Elements) (r : Report) : Type 0 where
  pub medium_transport : IsRun e MediumTransport r.medium_transport
  pub data_transfer : IsRun e DataTransfer r.data_transfer
  pub import_export : IsRun e ImportExport r.import_export
  pub storage : IsRun e Storage r.storage

-- no run goes past as many elements as there may be of its type
pub record IsSmall (r : Report) : Type 0 where
  pub medium_transport : r.medium_transport.from + r.medium_transport.count ≤ 1
  pub data_transfer : r.data_transfer.from + r.data_transfer.count ≤ 4
  pub import_export : r.import_export.from + r.import_export.count ≤ 16
  pub storage : r.storage.from + r.storage.count ≤ 1024
