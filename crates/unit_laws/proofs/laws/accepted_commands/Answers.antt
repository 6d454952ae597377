use Rattle.logical_unit.proofs.History.{executes_keeps}
use Rattle.unit_laws.proofs.laws.accepted_commands.Goals as goal

pub returns : goal.returns
returns c = executes_keeps
