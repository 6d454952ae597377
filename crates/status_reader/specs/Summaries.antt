-- What a summary says of a unit.
use Rattle.std.specs.Prelude.{◌≡◌, ℕ, zero, suc, ◌+◌, List, [], ◌∷◌, ◌++◌, length, Option, None, option_map, Ok, Err}
use Rattle.tape_medium.specs.Elements.{Elements, reads}
use Rattle.tape_medium.specs.Tape.{bytes_in}
use Rattle.tape_medium.specs.declared.volume.Volume.{Volume}
use Rattle.tape_medium.specs.declared.volume.VolumeTag.{VolumeTag}
use Rattle.element_map.specs.declared.element_type.ElementType.{ElementType}
use Rattle.element_map.specs.declared.element_type.ElementType.TheVariants.{DataTransfer, ImportExport, Storage}
use Rattle.element_map.specs.Runs.{count_of, first_of}
use Rattle.scsi_cdb.specs.declared.profile.Profile.{Profile}
use Rattle.device_server.specs.View.{DeviceView, Drive, Changer}
use Rattle.judgement.specs.UnitState.{is_prevented}
use Rattle.logical_unit.specs.UnitView.{UnitView, last_number}
use Rattle.lun_router.specs.Units.{IsAt}
use Rattle.library_status.specs.declared.summary.ElementSummary.{ElementSummary}
use Rattle.library_status.specs.declared.summary.UnitContents.{UnitContents}
use Rattle.library_status.specs.declared.summary.UnitContents.TheVariants as contents
use Rattle.library_status.specs.declared.summary.UnitSummary.{UnitSummary}
use Rattle.library_status.specs.declared.summary.VolumeSummary.{VolumeSummary}

-- a volume in a drive
abbrev pub volume_summary : Volume → VolumeSummary
volume_summary v = record {
  tag = v.tag;
  is_protected = v.protected;
  position = v.tape.position;
  objects = length v.tape.objects;
  unchanged = v.tape.unchanged;
  bytes = bytes_in v.tape.objects;
}

-- the tag in an element of an address
abbrev pub tag_at : Elements → (address : ℕ) → Option VolumeTag
tag_at e address = elim (reads e address) [ Ok tag ↦ tag | Err fault ↦ None ]

-- an element, by its number within its type
abbrev pub element_summary : Elements → ElementType → (number : ℕ) → ElementSummary
element_summary e type number =
    record { element_type = type; address = first_of type + number; tag = tag_at e (first_of type + number) }

-- the first elements of a type
abbrev pub elements_of_type : Elements → ElementType → (count : ℕ) → List ElementSummary
elements_of_type e type zero = []
elements_of_type e type (suc n) = elements_of_type e type n ++ element_summary e type n ∷ []

-- all elements that may hold a volume
abbrev pub summaries_of : Elements → List ElementSummary
summaries_of e =
    elements_of_type e DataTransfer (count_of e DataTransfer)
    ++ elements_of_type e ImportExport (count_of e ImportExport)
    ++ elements_of_type e Storage (count_of e Storage)

-- what is in a device
abbrev pub ShowsDevice : DeviceView → UnitContents → Type 0
ShowsDevice (Drive d) (contents.Drive volume) = volume ≡ option_map volume_summary d.bay
ShowsDevice (Changer c) (contents.Changer elements) = elements.items ≡ summaries_of c.elements
ShowsDevice device shown = ⊥

-- a summary is that of a unit
pub record IsSummaryOf (u : UnitView) (s : UnitSummary) : Type 0 where
  pub lun : s.lun ≡ u.state.lun
  pub last : s.last ≡ last_number u
  pub waiting : s.waiting ≡ length u.records
  pub slots : s.slots ≡ length u.state.slots
  pub prevented : s.is_prevented ≡ is_prevented u.state
  pub generation : s.generation ≡ u.state.reservations.generation
  pub reservation : s.reservation ≡ u.state.reservations.reservation
  pub registrations : s.registrations.items ≡ u.state.reservations.keys
  pub contents : ShowsDevice u.device s.contents

-- of some unit of a number and a profile
abbrev pub IsShownAt : Profile → (lun : ℕ) → UnitSummary → Type 0
IsShownAt p lun s = (u : UnitView) × (IsAt p lun u × IsSummaryOf u s)

-- of each unit, by its number, of which there are so many
abbrev pub AreShownFrom : Profile → (first count : ℕ) → List UnitSummary → Type 0
AreShownFrom p first zero [] = Unit {0}
AreShownFrom p first (suc count) (s ∷ ss) = IsShownAt p first s × AreShownFrom p (suc first) count ss
AreShownFrom p first count ss = ⊥

abbrev pub AreShown : Profile → (count : ℕ) → List UnitSummary → Type 0
AreShown p count ss = AreShownFrom p 0 count ss
