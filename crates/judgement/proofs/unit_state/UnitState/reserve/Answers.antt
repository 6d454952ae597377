use Rattle.std.proofs.Common.{rules}
use Rattle.pr_core.specs.Outcome.{act_of, raised_by}
use Rattle.judgement.proofs.PreventerLaws.{told_have}
use Rattle.judgement.proofs.unit_state.UnitState.reserve.Goals as goal

pub invariant_of-self : goal.invariant_of-self
invariant_of-self c =
    let v = c.self.inside.reservations in
    let told = raised_by v c.args.nexus (act_of v c.args.nexus c.args.params.now) in
    told_have c.apply.result c.self.inside.queues c.apply.new.queues told c.self.inside.preventers c.apply.ensures.attentions c.apply.ensures.silent c.self.invariant

pub preempt_and_abort-requires-clause-aborts : goal.preempt_and_abort-requires-clause-aborts
preempt_and_abort-requires-clause-aborts c = search rules fits 100

pub returns-else-eq-clause-ok : goal.returns-else-eq-clause-ok
returns-else-eq-clause-ok c = search rules fits 100
