use Rattle.unit_laws.proofs.Conflicts.{conflicts}
use Rattle.unit_laws.proofs.laws.conflicts_at_the_check.Goals as goal

pub returns : goal.returns
returns c = conflicts
