use Rattle.protected_span.proofs.Reaching.{power_on_is_reached, drained_is_reached, runs_reach, all_are_reached}
use Rattle.protected_span.proofs.laws.units_are_reached.Goals as goal

pub returns-clause-power_on : goal.returns-clause-power_on
returns-clause-power_on c = power_on_is_reached

pub returns-clause-drained : goal.returns-clause-drained
returns-clause-drained c = drained_is_reached

pub returns-clause-runs : goal.returns-clause-runs
returns-clause-runs c = runs_reach

pub returns-clause-all : goal.returns-clause-all
returns-clause-all c = all_are_reached
