use Rattle.target_laws.proofs.NoFailures.{never_fails}
use Rattle.target_laws.proofs.library_laws.never_fails.Goals as goal

pub returns : goal.returns
returns c = never_fails
