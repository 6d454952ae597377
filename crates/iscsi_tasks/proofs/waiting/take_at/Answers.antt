use Rattle.std.proofs.Common.{length, sym, ap, ◌∙◌}
use Rattle.std.specs.Prelude.{slice_set}
use Rattle.std.proofs.lemmas.Result.{IfOk-weaker, on_ok_weaker}
use Rattle.std.proofs.lemmas.List.Quantifiers.{position-Some}
use Rattle.iscsi_tasks.specs.Commands.{has_tag}
use Rattle.iscsi_tasks.proofs.Places.{taken_at, answered_at}
use Rattle.iscsi_tasks.proofs.waiting.take_at.Goals as goal

pub returns-clause-answer : goal.returns-clause-answer
returns-clause-answer c =
    let t = c.index_mut-task.result.now in
    let at = position-Some (has_tag c.args.data_out.now.initiator_task_tag) c.args.waiting.now.items c.args.place t c.requires in
    let same = answered_at c.args.data_out.now (length c.args.payload.now) c.args.waiting.now.items c.args.place t at.0 c.index_mut-task.ensures.value at.1 at.2 in
    IfOk-weaker c.take.result _ _ (λ x is. is ∙ sym same) c.take.ensures.answer

pub returns-clause-ok : goal.returns-clause-ok
returns-clause-ok c =
    let t = c.index_mut-task.result.now in
    let at = position-Some (has_tag c.args.data_out.now.initiator_task_tag) c.args.waiting.now.items c.args.place t c.requires in
    let same = taken_at c.args.data_out.now c.args.payload.now c.args.waiting.now.items c.args.place t at.0 c.index_mut-task.ensures.value at.1 at.2 in
    on_ok_weaker c.take.result (λ is. ap (slice_set c.args.waiting.now.items c.args.place) is ∙ sym same) c.take.ensures.ok
