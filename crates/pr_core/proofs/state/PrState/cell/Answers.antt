use Rattle.std.proofs.Common.{rules}
use Rattle.pr_core.proofs.state.PrState.cell.Goals as goal

pub returns : goal.returns
returns c = search rules fits 100
