use Rattle.std.proofs.Common.{rules}
use Rattle.pr_core.proofs.state.PrState.broken_rule.Goals as goal

pub returns-then-not-has_key : goal.returns-then-not-has_key
returns-then-not-has_key c = search rules fits 100
