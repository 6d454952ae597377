-- The metrics of each unit (profile).
use Rattle.std.specs.Prelude.{ℕ, Bool, true, false, List, ◌++◌, vec_len, is_some}
use Rattle.std.specs.List.{flat_map}
use Rattle.library_status.specs.declared.summary.UnitSummary.{UnitSummary}
use Rattle.metrics_text.specs.Families.{family_name, heading}
use Rattle.metrics_text.specs.Words.{number_after, value_after}
use Rattle.metrics_text.specs.declared.word.Word.TheVariants as word
use Rattle.metrics_text.specs.declared.family.Family.TheVariants as family
use Rattle.metrics_text.specs.declared.family.UnitNumber.{UnitNumber}
use Rattle.metrics_text.specs.declared.family.UnitNumber.TheVariants as number

-- what holds is 1
abbrev pub truth : Bool → ℕ
truth true = 1
truth false = 0

abbrev pub unit_value : UnitNumber → UnitSummary → ℕ
unit_value number.Last u = u.last
unit_value number.Waiting u = u.waiting
unit_value number.Slots u = u.slots
unit_value number.Registrations u = vec_len u.registrations
unit_value number.Reserved u = truth (is_some u.reservation)
unit_value number.Prevented u = truth u.is_prevented

unfoldable pub unit_line : UnitNumber → UnitSummary → List ℕ
unit_line n u = family_name (family.Unit n) ++ number_after word.Unit u.lun ++ value_after word.EndOfLabels (unit_value n u)

unfoldable pub unit_family : UnitNumber → List UnitSummary → List ℕ
unit_family n us = heading (family.Unit n) ++ flat_map (unit_line n) us

-- those of records, and of slots
unfoldable pub record_metrics : List UnitSummary → List ℕ
record_metrics us = unit_family number.Last us ++ unit_family number.Waiting us ++ unit_family number.Slots us

-- those of who holds a unit
unfoldable pub held_metrics : List UnitSummary → List ℕ
held_metrics us = unit_family number.Registrations us ++ unit_family number.Reserved us ++ unit_family number.Prevented us

unfoldable pub unit_metrics : List UnitSummary → List ℕ
unit_metrics us = record_metrics us ++ held_metrics us
