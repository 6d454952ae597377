use Rattle.std.proofs.Common.{◌≡◌, take, map}
use Rattle.pr_core.proofs.state.PrState.registrants.Given as goal

abbrev pub invariant-loop-nexus : goal.invariant-loop-nexus
invariant-loop-nexus l = l.list ≡ map (λ e. e.0) (take l.nexus-index l.nexus-items)
