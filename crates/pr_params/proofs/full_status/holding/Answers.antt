use Rattle.std.proofs.Common.{rules}
use Rattle.pr_params.proofs.full_status.holding.Goals as goal

pub returns-else-eq : goal.returns-else-eq
returns-else-eq c = search rules
