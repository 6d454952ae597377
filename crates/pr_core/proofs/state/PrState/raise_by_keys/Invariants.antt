use Rattle.std.proofs.Common.{◌≡◌, drop}
use Rattle.pr_core.specs.Acts.{act_shown}
use Rattle.pr_core.specs.Outcome.{raised_for}
use Rattle.pr_core.proofs.RaisedLaws.{all_told}
use Rattle.pr_core.proofs.state.PrState.raise_by_keys.Given as goal

-- what is left to tell, told now, gives what all gives
abbrev pub invariant-loop-nexus : goal.invariant-loop-nexus
invariant-loop-nexus l = all_told (raised_for l.self l.sender (act_shown l.act)) l.queues (drop l.nexus-index l.nexus-items) ≡ all_told (raised_for l.self l.sender (act_shown l.act)) l.fn.queues l.nexus-items
