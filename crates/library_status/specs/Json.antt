-- The summary of a library as a line of JSON (RFC 8259), with no space between its tokens (profile).
use Rattle.std.specs.Prelude.{ℕ, Bool, true, false, List, [], ◌∷◌, ◌++◌, codes, Option, None, Some, if◌then◌else◌}
use Rattle.std.specs.List.{flat_map}
use Rattle.scsi_cdb.specs.declared.profile.Profile.{Profile}
use Rattle.scsi_cdb.specs.declared.profile.Profile.TheVariants.{Spec, Hosts}
use Rattle.scsi_nexus.specs.declared.nexus.Nexus.{Nexus}
use Rattle.permit_tables.specs.declared.res_type.ResType.{ResType}
use Rattle.permit_tables.specs.Types.{is_all_registrants}
use Rattle.permit_tables.specs.Text.{type_name}
use Rattle.tape_medium.specs.declared.volume.VolumeTag.{VolumeTag}
use Rattle.element_map.specs.declared.element_type.ElementType.{ElementType}
use Rattle.element_map.specs.declared.element_type.ElementType.TheVariants.{MediumTransport, DataTransfer, ImportExport, Storage}
use Rattle.library_status.specs.Words.{key_after, nexus_after, number_after, tag_after, word_text, words_after}
use Rattle.library_status.specs.declared.word.Word.TheVariants as word
use Rattle.library_status.specs.declared.summary.ElementSummary.{ElementSummary}
use Rattle.library_status.specs.declared.summary.LibrarySummary.{LibrarySummary}
use Rattle.library_status.specs.declared.summary.ServerSummary.{ServerSummary}
use Rattle.library_status.specs.declared.summary.SessionSummary.{SessionSummary}
use Rattle.library_status.specs.Sessions.{session_json}
use Rattle.library_status.specs.declared.summary.UnitContents.{UnitContents}
use Rattle.library_status.specs.declared.summary.UnitContents.TheVariants as contents
use Rattle.library_status.specs.declared.summary.UnitSummary.{UnitSummary}
use Rattle.library_status.specs.declared.summary.VolumeSummary.{VolumeSummary}

abbrev pub truth : Bool → List ℕ
truth true = codes "true"
truth false = codes "false"

-- what is in an array, with commas between
abbrev pub after_comma : {X : Type 0} → (X → List ℕ) → X → List ℕ
after_comma text x = word_text word.Comma ++ text x

abbrev pub listed : {X : Type 0} → (X → List ℕ) → List X → List ℕ
listed text [] = []
listed text (x ∷ xs) = text x ++ flat_map (after_comma text) xs

abbrev pub named_json : VolumeTag → List ℕ
named_json tag = tag_after word.Quote tag ++ word_text word.Quote

-- the tag in a place, if there is one
abbrev pub tag_json : Option VolumeTag → List ℕ
tag_json None = word_text word.Null
tag_json (Some tag) = named_json tag

-- RESERVATIONS

-- under a type of all registrants each registered nexus holds, and no one is named
abbrev pub holder_json : ResType → Nexus → List ℕ
holder_json type nexus = if is_all_registrants type then word_text word.Null else nexus_after word.Quote nexus ++ word_text word.Quote

abbrev pub held_json : ResType → Nexus → List ℕ
held_json type nexus = words_after word.Type (type_name type) ++ word_text word.Holder ++ holder_json type nexus ++ word_text word.End

abbrev pub reservation_json : Option (ResType × Nexus) → List ℕ
reservation_json None = word_text word.Null
reservation_json (Some held) = held_json held.0 held.1

abbrev pub registration_json : Nexus × ℕ → List ℕ
registration_json it = nexus_after word.Nexus it.0 ++ key_after word.Key it.1 ++ word_text word.EndOfPair

-- WHAT IS IN A UNIT

abbrev pub element_type_text : ElementType → List ℕ
element_type_text MediumTransport = codes "medium transport"
element_type_text DataTransfer = codes "data transfer"
element_type_text ImportExport = codes "import/export"
element_type_text Storage = codes "storage"

unfoldable pub address_json : ElementSummary → List ℕ
address_json e = number_after word.Address e.address ++ words_after word.ElementType (element_type_text e.element_type)

unfoldable pub holds_json : Option VolumeTag → List ℕ
holds_json tag = word_text word.Holds ++ tag_json tag ++ word_text word.End

unfoldable pub element_json : ElementSummary → List ℕ
element_json e = address_json e ++ holds_json e.tag

unfoldable pub cartridge_json : VolumeSummary → List ℕ
cartridge_json v = tag_after word.Tag v.tag ++ words_after word.Protected (truth v.is_protected)

unfoldable pub objects_json : VolumeSummary → List ℕ
objects_json v = number_after word.Position v.position ++ number_after word.Objects v.objects

unfoldable pub tape_json : VolumeSummary → List ℕ
tape_json v = objects_json v ++ number_after word.Bytes v.bytes

unfoldable pub in_drive_json : VolumeSummary → List ℕ
in_drive_json v = cartridge_json v ++ tape_json v ++ word_text word.End

abbrev pub volume_json : Option VolumeSummary → List ℕ
volume_json None = word_text word.Null
volume_json (Some v) = in_drive_json v

abbrev pub kind_text : UnitContents → List ℕ
kind_text (contents.Changer elements) = codes "changer"
kind_text (contents.Drive volume) = codes "drive"

abbrev pub contents_json : UnitContents → List ℕ
contents_json (contents.Changer elements) = word_text word.Elements ++ listed element_json elements.items ++ word_text word.EndOfList
contents_json (contents.Drive volume) = word_text word.Volume ++ volume_json volume

-- UNITS

-- which unit it is, and how many slots are used
unfoldable pub place_json : UnitSummary → List ℕ
place_json u =
    number_after word.Lun u.lun ++ words_after word.Kind (kind_text u.contents)
    ++ number_after word.Used u.slots

-- its records, and whether removal is prevented
unfoldable pub numbers_json : UnitSummary → List ℕ
numbers_json u = number_after word.Last u.last ++ number_after word.Waiting u.waiting

unfoldable pub records_json : UnitSummary → List ℕ
records_json u = numbers_json u ++ words_after word.Prevented (truth u.is_prevented)

unfoldable pub reserved_json : Option (ResType × Nexus) → List ℕ
reserved_json held = word_text word.Reservation ++ reservation_json held

unfoldable pub held_by_json : UnitSummary → List ℕ
held_by_json u = number_after word.Generation u.generation ++ reserved_json u.reservation

unfoldable pub registrations_json : UnitSummary → List ℕ
registrations_json u = word_text word.Registrations ++ listed registration_json u.registrations.items ++ word_text word.EndOfList

unfoldable pub state_json : UnitSummary → List ℕ
state_json u = place_json u ++ records_json u ++ held_by_json u ++ registrations_json u

unfoldable pub unit_json : UnitSummary → List ℕ
unit_json u = state_json u ++ contents_json u.contents ++ word_text word.End

abbrev pub profile_text : Profile → List ℕ
profile_text Spec = codes "spec"
profile_text Hosts = codes "hosts"

unfoldable pub units_json : List UnitSummary → List ℕ
units_json us = word_text word.Units ++ listed unit_json us

unfoldable pub sessions_json : List SessionSummary → List ℕ
sessions_json ss = word_text word.Sessions ++ listed session_json ss ++ word_text word.EndOfList

-- THE SERVER

abbrev pub memory_json : Option ℕ → List ℕ
memory_json None = word_text word.Memory ++ word_text word.Null
memory_json (Some bytes) = number_after word.Memory bytes

-- what can't be written
unfoldable pub failing_json : ServerSummary → List ℕ
failing_json s =
    word_text word.Failing ++ listed named_json s.failing.items
    ++ words_after word.FailingInventory (truth s.is_inventory_failing)

unfoldable pub server_json : ServerSummary → List ℕ
server_json s = memory_json s.memory ++ failing_json s ++ word_text word.EndOfStatus

-- the line, without its end
unfoldable pub library_json : LibrarySummary → List SessionSummary → ServerSummary → List ℕ
library_json l sessions server =
    words_after word.Version (profile_text l.profile) ++ units_json l.units.items ++ sessions_json sessions
    ++ server_json server
