use Rattle.std.proofs.Common.{rules}
use Rattle.pr_core.proofs.state.PrState.act_of.Goals as goal

pub returns-in-Release : goal.returns-in-Release
returns-in-Release c = search rules fits 100
