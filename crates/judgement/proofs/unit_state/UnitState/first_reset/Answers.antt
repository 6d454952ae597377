use Rattle.std.proofs.Common.{rules}
use Rattle.judgement.proofs.unit_state.UnitState.first_reset.Goals as goal

pub returns : goal.returns
returns c = search rules fits 100
