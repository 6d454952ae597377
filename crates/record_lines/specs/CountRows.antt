-- Worked rows: kinds of records, and how often they were counted.
use Rattle.std.specs.Prelude.{◌≡◌, [], ◌∷◌, ◌-◌, ◌^◌, codes}
use Rattle.audit_log.specs.Rows.{first_contact, ready, was_reset, wrong_key}
use Rattle.record_lines.specs.Counts.{Count, Kind, amount, counted, kind_of}

abbrev pub of_ready : Kind
of_ready = record { class = codes "TEST-UNIT-READY"; res_type = codes "NONE"; role = codes "OTHER"; status = codes "00" }

abbrev pub of_conflict : Kind
of_conflict = record { class = codes "REGISTER"; res_type = codes "NONE"; role = codes "OTHER"; status = codes "18" }

abbrev pub full : Count
full = record { kind = of_ready; count = 2 ^ 64 - 1 }

pub record CountsOfRecords : Type 0 where
  pub cell : kind_of ready ≡ of_ready
  pub conflict : kind_of wrong_key ≡ of_conflict
  pub no_cell : kind_of first_contact ≡ record { class = codes "TEST-UNIT-READY"; res_type = []; role = []; status = codes "02" }
  pub nobody : kind_of was_reset ≡ record { class = codes "RESET"; res_type = []; role = []; status = codes "00" }
  pub twice : counted (counted (counted [] of_ready) of_conflict) of_ready
      ≡ record { kind = of_ready; count = 2 } ∷ record { kind = of_conflict; count = 1 } ∷ []
  pub other : amount (counted (counted [] of_ready) of_ready) of_conflict ≡ 0
  pub largest : counted (full ∷ []) of_ready ≡ full ∷ []
