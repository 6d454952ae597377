-- What a record says was asked.
use Rattle.std.specs.Prelude.{Option, Some, None}
use Rattle.scsi_cdb.specs.declared.classes.Class.{Class}
use Rattle.scsi_cdb.specs.Classes.{class_of_action}
use Rattle.audit_log.specs.declared.act.Asked.{Asked}
use Rattle.audit_log.specs.declared.act.Asked.TheVariants as asked
use Rattle.audit_log.specs.declared.act.Act.{Act}
use Rattle.audit_log.specs.declared.act.Act.TheVariants.{Command, ReserveOut, Invalid, Loss, Reset, MediumIn, MediumOut}

-- the class of a command; what isn't a command has none
abbrev pub class_of_act : Act → Option Class
class_of_act (Command class) = Some class
class_of_act (ReserveOut params) = Some (class_of_action params.act)
class_of_act Invalid = None
class_of_act Loss = None
class_of_act Reset = None
class_of_act MediumIn = None
class_of_act MediumOut = None

-- a command as if it had no parameter list, and what isn't a command
abbrev pub act_of : Asked → Act
act_of (asked.Command class) = Command class
act_of asked.Invalid = Invalid
act_of asked.Loss = Loss
act_of asked.Reset = Reset
act_of asked.MediumIn = MediumIn
act_of asked.MediumOut = MediumOut
