-- What is printed of the permission table.
use Rattle.std.specs.Prelude.{ℕ, List, [], ◌∷◌, Option, Some, None}
use Rattle.scsi_cdb.specs.declared.classes.Class.{Class}
use Rattle.scsi_cdb.specs.declared.profile.Profile.{Profile}
use Rattle.permission_chart.specs.Chart.{chart}
use Rattle.permission_chart.specs.Classes.{every_class}

-- the chart of one class, or of all that a profile has
abbrev pub cells_text : Profile → Option Class → List ℕ
cells_text profile None = chart (every_class profile)
cells_text profile (Some class) = chart (class ∷ [])
