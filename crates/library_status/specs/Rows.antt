-- Worked rows: what is told of a volume, an element, a reservation, a registration, a session and a server.
use Rattle.std.specs.Prelude.{◌≡◌, ℕ, true, false, List, [], ◌∷◌, ◌++◌, replicate, codes, Option, Some, None}
use Rattle.scsi_nexus.specs.declared.nexus.Nexus.{Nexus}
use Rattle.permit_tables.specs.declared.res_type.ResType.TheVariants.{Ea, Eaar}
use Rattle.tape_medium.specs.declared.volume.VolumeTag.{VolumeTag}
use Rattle.element_map.specs.declared.element_type.ElementType.TheVariants.{DataTransfer, Storage}
use Rattle.library_status.specs.Json.{element_json, listed, memory_json, named_json, registration_json, reservation_json, volume_json}
use Rattle.library_status.specs.Picture.{element_picture, failing_line, in_columns, size_in_memory}
use Rattle.library_status.specs.Sessions.{session_json}
use Rattle.library_status.specs.declared.summary.ElementSummary.{ElementSummary}
use Rattle.library_status.specs.declared.summary.SessionSummary.{SessionSummary}
use Rattle.library_status.specs.declared.summary.VolumeSummary.{VolumeSummary}

-- a tag, padded with spaces to 32 bytes
abbrev pub tag : List ℕ → (spaces : ℕ) → VolumeTag
tag name spaces = record { 0 = name ++ replicate spaces 32 }

abbrev pub a : Nexus
a = record { sas = 0x500000000000000A; port = 1 }

abbrev pub one_volume : VolumeSummary
one_volume = record { tag = tag (codes "VOL00001") 24; is_protected = false; position = 3; objects = 4; unchanged = 2; bytes = 1008 }

abbrev pub empty_element : ElementSummary
empty_element = record { element_type = DataTransfer; address = 0x100; tag = None }

abbrev pub full_element : ElementSummary
full_element = record { element_type = Storage; address = 0x409; tag = Some (tag (65 ∷ 34 ∷ []) 30) }

abbrev pub one_session : SessionSummary
one_session = record { number = 7; nexus = None; name = None; address = None; start = None; commands = 2; received = 96; sent = 1100 }

pub record StatusRows : Type 0 where
  pub volume : volume_json (Some one_volume) ≡ codes "{\"tag\":\"VOL00001\",\"protected\":false,\"position\":3,\"objects\":4,\"bytes\":1008}"
  pub no_volume : volume_json None ≡ codes "null"
  pub empty : element_json empty_element ≡ codes "{\"address\":256,\"type\":\"data transfer\",\"volume\":null}"
  pub escaped : element_json full_element ≡ codes "{\"address\":1033,\"type\":\"storage\",\"volume\":\"A\\u0022\"}"
  pub held : reservation_json (Some (Ea, a)) ≡ codes "{\"type\":\"EA\",\"holder\":\"500000000000000a.1\"}"
  pub held_by_all : reservation_json (Some (Eaar, a)) ≡ codes "{\"type\":\"EAAR\",\"holder\":null}"
  pub not_held : reservation_json None ≡ codes "null"
  pub registration : registration_json (a, 0xAB) ≡ codes "{\"nexus\":\"500000000000000a.1\",\"key\":\"00000000000000ab\"}"
  pub session : session_json one_session
      ≡ codes "{\"number\":7,\"nexus\":null,\"name\":null,\"address\":null,\"start\":null,\"commands\":2,\"received\":96,\"sent\":1100}"
  pub memory : memory_json (Some 12906496) ≡ codes ",\"memory\":12906496"
  pub no_memory : memory_json None ≡ codes ",\"memory\":null"
  pub failing : listed named_json (one_volume.tag ∷ tag (65 ∷ 34 ∷ []) 30 ∷ []) ≡ codes "\"VOL00001\",\"A\\u0022\""
  pub first_of_a_row : element_picture empty_element ≡ codes "\n  data transfer\n   256        -"
  pub within_a_row : element_picture full_element ≡ codes "       A\""
  pub short_tag : in_columns (codes "A1") ≡ codes "      A1"
  pub long_tag : in_columns (codes "ARCHIVE_1") ≡ codes "ARCHIVE~"
  pub size : size_in_memory 12906496 ≡ codes "\n  memory 12.3 MiB"
  pub size_of_a_page : size_in_memory 4096 ≡ codes "\n  memory 0.0 MiB"
  pub not_written : failing_line one_volume.tag ≡ codes "\n  failing: VOL00001"
