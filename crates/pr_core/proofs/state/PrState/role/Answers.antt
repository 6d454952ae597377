use Rattle.std.proofs.Common.{rules}
use Rattle.pr_core.proofs.state.PrState.role.Goals as goal

pub returns-else-key_of-ne0 : goal.returns-else-key_of-ne0
returns-else-key_of-ne0 c = search rules fits 100
