use Rattle.std.proofs.Common.{rules}
use Rattle.judgement.proofs.unit_state.UnitState.verdict.Goals as goal

pub returns-else-allowed : goal.returns-else-allowed
returns-else-allowed c = search rules fits 100
