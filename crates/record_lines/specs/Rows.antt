-- Worked rows: lines of records.
use Rattle.std.specs.Prelude.{◌≡◌, ℕ, List, [], ◌∷◌, ◌++◌, Some, None, codes}
use Rattle.scsi_nexus.specs.declared.nexus.Nexus.{Nexus}
use Rattle.permit_tables.specs.declared.res_type.ResType.TheVariants.{We}
use Rattle.audit_log.specs.Rows.{first_contact, ready, wrong_key, was_reset}
use Rattle.program_options.specs.declared.record_format.RecordFormat.TheVariants.{Json, Text}
use Rattle.record_lines.specs.Lines.{line_of}

abbrev pub time : List ℕ
time = codes "2026-11-30T22:09:37.123Z"

abbrev pub name : List ℕ
name = codes "iqn.2026-11.example:a"

abbrev pub a : Nexus
a = record { sas = 0x500000000000000A; port = 1 }

pub record LinesOfRecords : Type 0 where
  pub sense : line_of Json (Some time) 1 (Some name) None first_contact
      ≡ codes "{\"time\":\"2026-11-30T22:09:37.123Z\",\"unit\":1,\"number\":1,\"nexus\":\"500000000000000a.1\",\"name\":\"iqn.2026-11.example:a\",\"class\":\"TEST-UNIT-READY\",\"stage\":2,\"cell\":null,\"rule\":null,\"status\":\"02\",\"sense\":\"700006000000000a00000000290000000000\",\"reservation\":null}\n"
  pub cell : line_of Json (Some time) 4 None (Some (We, a)) ready
      ≡ codes "{\"time\":\"2026-11-30T22:09:37.123Z\",\"unit\":4,\"number\":2,\"nexus\":\"500000000000000a.1\",\"name\":null,\"class\":\"TEST-UNIT-READY\",\"stage\":6,\"cell\":\"TEST-UNIT-READY/NONE/OTHER\",\"rule\":null,\"status\":\"00\",\"sense\":null,\"reservation\":\"WE/500000000000000a.1\"}\n"
  pub nobody : line_of Json None 0 None None was_reset
      ≡ codes "{\"time\":null,\"unit\":0,\"number\":40,\"nexus\":null,\"name\":null,\"class\":\"RESET\",\"stage\":6,\"cell\":null,\"rule\":null,\"status\":\"00\",\"sense\":null,\"reservation\":null}\n"
  pub text : line_of Text (Some time) 1 (Some name) None wrong_key
      ≡ codes "2026-11-30T22:09:37.123Z 1 2 500000000000000a.1 iqn.2026-11.example:a REGISTER 3 REGISTER/NONE/OTHER K1 18 - -\n"
  pub text_of_nobody : line_of Text None 0 None None was_reset ≡ codes "- 0 40 - - RESET 6 - - 00 - -\n"
