use Rattle.std.proofs.Common.{rules}
use Rattle.pr_core.proofs.state.PrState.new.Goals as goal

pub returns : goal.returns
returns c = search rules fits 100
