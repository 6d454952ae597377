use Rattle.protected_span.proofs.Theorems.{spans_are_runs}
use Rattle.protected_span.proofs.laws.spans_are_runs.Goals as goal

pub returns : goal.returns
returns c = spans_are_runs
