use Rattle.std.proofs.Common.{rules}
use Rattle.logical_unit.proofs.state.RecordedUnit.audit.Goals as goal

pub returns : goal.returns
returns c = search rules fits 100
