-- The elements that READ ELEMENT STATUS reports, as a run of consecutive ones of each type.
use Rattle.std.specs.Prelude.{ℕ, ◌+◌, ◌*◌, ◌<◌, ◌≤◌, Bool, ◌==◌, List, ◌++◌, length, if◌then◌else◌}
use Rattle.tape_medium.specs.Elements.{Elements, first_data_transfer}
use Rattle.tape_medium.specs.ElementStatus.{Reported}
use Rattle.element_map.specs.declared.element_type.ElementType.{ElementType}
use Rattle.element_map.specs.declared.element_type.ElementType.TheVariants.{MediumTransport, DataTransfer, ImportExport, Storage}
use Rattle.element_map.specs.Limits.{IsWithinLimits}
use Rattle.element_map.specs.Runs.{code_of, first_of, tags_of, in_run}
use Rattle.element_sources.specs.declared.reported_element.ReportedElement.{ReportedElement}
use Rattle.element_sources.specs.declared.run.Run.{Run}
use Rattle.element_sources.specs.declared.report.Report.{Report}
use Rattle.element_sources.specs.HostStatus.{host_descriptor_length}

abbrev pub as_reported : ReportedElement → Reported
as_reported element = record { type_code = code_of element.element_type; address = element.address; tag = element.tag }

-- no more elements of a type than there may be
abbrev pub HasLimits : Elements → Type 0
HasLimits e = IsWithinLimits e.data_transfer e.import_export e.storage

-- a data transfer element has one of the first four addresses
abbrev pub IsDriveAddress : ElementType → (address : ℕ) → Type 0
IsDriveAddress MediumTransport address = Unit {0}
IsDriveAddress DataTransfer address = (first_data_transfer ≤ address) × (address < first_data_transfer + 4)
IsDriveAddress ImportExport address = Unit {0}
IsDriveAddress Storage address = Unit {0}

abbrev pub IsReportable : ReportedElement → Type 0
IsReportable element = IsDriveAddress element.element_type element.address

-- the elements of a run, and whether they are there
abbrev pub run_elements : Elements → ElementType → Run → List Reported
run_elements e type run = in_run e type run.from run.count

abbrev pub IsRun : Elements → ElementType → Run → Type 0
IsRun e type run = run.from + run.count ≤ length (tags_of e type)

-- all runs, in order of address
abbrev pub report_elements : Elements → Report → List Reported
report_elements e r =
    run_elements e MediumTransport r.medium_transport ++ run_elements e DataTransfer r.data_transfer
    ++ run_elements e ImportExport r.import_export ++ run_elements e Storage r.storage

pub record IsReport (e : Elements) (r : Report) : Type 0 where
  pub limits : HasLimits e
  pub medium_transport : IsRun e MediumTransport r.medium_transport
  pub data_transfer : IsRun e DataTransfer r.data_transfer
  pub import_export : IsRun e ImportExport r.import_export
  pub storage : IsRun e Storage r.storage

-- no run goes past as many elements as there may be of its type
pub record IsSmall (r : Report) : Type 0 where
  pub medium_transport : r.medium_transport.from + r.medium_transport.count ≤ 1
  pub data_transfer : r.data_transfer.from + r.data_transfer.count ≤ 4
  pub import_export : r.import_export.from + r.import_export.count ≤ 16
  pub storage : r.storage.from + r.storage.count ≤ 1024

-- the bytes of a page with so many descriptors
abbrev pub page_length : (volume_tags device_identifiers : Bool) → ElementType → (count : ℕ) → ℕ
page_length volume_tags device_identifiers type count =
    if count == 0 then 0 else 8 + count * host_descriptor_length volume_tags device_identifiers (code_of type)

abbrev pub report_length : (volume_tags device_identifiers : Bool) → Report → ℕ
report_length volume_tags device_identifiers r =
    page_length volume_tags device_identifiers MediumTransport r.medium_transport.count
    + page_length volume_tags device_identifiers DataTransfer r.data_transfer.count
    + page_length volume_tags device_identifiers ImportExport r.import_export.count
    + page_length volume_tags device_identifiers Storage r.storage.count

abbrev pub report_number : Report → ℕ
report_number r = r.medium_transport.count + r.data_transfer.count + r.import_export.count + r.storage.count

-- the address of the first element of a run, or else `other`
abbrev pub first_in : ElementType → Run → (other : ℕ) → ℕ
first_in type run other = if run.count == 0 then other else first_of type + run.from

abbrev pub report_first : Report → ℕ
report_first r =
    first_in MediumTransport r.medium_transport (first_in DataTransfer r.data_transfer (first_in ImportExport r.import_export (first_in Storage r.storage 0)))
