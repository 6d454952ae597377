use Rattle.std.proofs.Common.{rules}
use Rattle.judgement.proofs.PreventerLaws.{cleared_have}
use Rattle.judgement.proofs.unit_state.UnitState.report_attention.Goals as goal

pub invariant_of-self : goal.invariant_of-self
invariant_of-self c = rw c.clear.ensures (cleared_have c.self.inside.queues c.args.nexus c.args.kind c.self.inside.preventers c.self.invariant)

pub returns-clause-state : goal.returns-clause-state
returns-clause-state c = search rules fits 100
