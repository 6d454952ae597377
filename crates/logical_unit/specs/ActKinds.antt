-- What an entry keeps of an act.
use Rattle.std.specs.Prelude.{ℕ, List, [], ◌∷◌, Option, Some, None}
use Rattle.scsi_cdb.specs.Classes.{class_of_action}
use Rattle.audit_log.specs.declared.act.Act.{Act}
use Rattle.audit_log.specs.declared.act.Act.TheVariants as act
use Rattle.logical_unit.specs.declared.act_kind.ActKind.{ActKind}
use Rattle.logical_unit.specs.declared.act_kind.ActKind.TheVariants as kind

abbrev pub act_kind_of : Act → ActKind
act_kind_of (act.Command class) = kind.Command class
act_kind_of (act.ReserveOut params) = kind.Command (class_of_action params.act)
act_kind_of act.Invalid = kind.Invalid
act_kind_of act.Loss = kind.Loss
act_kind_of act.Reset = kind.Reset
act_kind_of act.MediumIn = kind.Medium
act_kind_of act.MediumOut = kind.Medium

-- it is told where the call left a record
abbrev pub act_kind_if : (numbers : List (ℕ × ℕ)) → ActKind → Option ActKind
act_kind_if [] kind = None
act_kind_if (n ∷ ns) kind = Some kind
