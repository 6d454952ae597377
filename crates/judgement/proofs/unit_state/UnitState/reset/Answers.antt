use Rattle.std.proofs.Common.{rules}
use Rattle.judgement.proofs.unit_state.UnitState.reset.Goals as goal

pub invariant_of-self : goal.invariant_of-self
invariant_of-self c = search rules fits 100

pub returns : goal.returns
returns c = search rules fits 100
