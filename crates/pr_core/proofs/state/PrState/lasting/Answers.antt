use Rattle.std.proofs.Common.{rules}
use Rattle.pr_core.proofs.state.PrState.lasting.Goals as goal

pub returns-then-over : goal.returns-then-over
returns-then-over c = search rules fits 100
