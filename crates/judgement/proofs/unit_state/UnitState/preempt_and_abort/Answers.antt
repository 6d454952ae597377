use Rattle.std.proofs.Common.{not}
use Rattle.scsi_nexus.specs.declared.nexus.Nexus.{Nexus}
use Rattle.pr_core.specs.Targets.{is_among}
use Rattle.pr_core.specs.Outcome.{act_of, raised_by}
use Rattle.unit_attention.specs.Queues.{all_raised}
use Rattle.judgement.proofs.PreventerLaws.{filter_have, all_raised_have}
use Rattle.judgement.proofs.unit_state.UnitState.preempt_and_abort.Goals as goal

pub invariant_of-self-2 : goal.invariant_of-self-2
invariant_of-self-2 c =
    let v = c.self.inside.reservations in
    let told = raised_by v c.args.nexus (act_of v c.args.nexus c.args.params.now) in
    let stays = λ (p : Nexus). not (is_among p c.items.result.now) in
    rw (c.remove_all.ensures, c.in_ok-apply.ensures.attentions) (filter_have (all_raised c.self.inside.queues told) stays c.self.inside.preventers (all_raised_have c.self.inside.queues told c.self.inside.preventers c.self.invariant))
