use Rattle.target_core.proofs.Runs.{Runs-append}
use Rattle.target_laws.proofs.laws.runs_one_after_another.Goals as goal

pub returns : goal.returns
returns c = Runs-append
