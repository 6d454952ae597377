-- An event of a unit, without where its bytes lie.
use Rattle.logical_unit.specs.declared.done.EventKind.{EventKind}
use Rattle.logical_unit.specs.declared.done.EventKind.TheVariants as kind
use Rattle.logical_unit.specs.Answers.{EventValue, Loss, Reset, Command}

abbrev pub event_value : EventKind → EventValue
event_value kind.Loss = Loss
event_value kind.Reset = Reset
event_value (kind.Command cdb bytes) = Command cdb.now bytes.now
