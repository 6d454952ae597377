use Rattle.std.proofs.Common.{◌≡◌, ◌≤◌, take, length, map}
use Rattle.std.specs.Prelude.{filter}
use Rattle.pr_core.specs.Acts.{act_shown}
use Rattle.pr_core.specs.Outcome.{is_removed}
use Rattle.pr_core.proofs.state.PrState.removed_by.Given as goal

abbrev pub invariant-loop-nexus : goal.invariant-loop-nexus
invariant-loop-nexus l = (l.removed ≡ filter (is_removed l.self l.sender (act_shown l.act)) (map (λ e. e.0) (take l.nexus-index l.nexus-items))) × (length l.removed ≤ l.nexus-index)
