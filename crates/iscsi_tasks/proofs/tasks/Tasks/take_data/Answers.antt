use Rattle.iscsi_tasks.specs.Values.{TasksValue}
use Rattle.iscsi_tasks.proofs.Window.{taken_within}
use Rattle.iscsi_tasks.proofs.tasks.Tasks.take_data.Goals as goal

pub invariant_of-self-in-Some : goal.invariant_of-self-in-Some
invariant_of-self-in-Some c =
    let own = c.self.inside in
    let s : TasksValue = record {
      parameters = own.parameters;
      limit = own.limit;
      exp_cmd_sn = own.exp_cmd_sn;
      waiting = own.waiting.items;
      passed_over = own.passed_over;
      next_tag = own.next_tag;
      in_hand = own.in_hand;
      replies = own.replies.items;
      reset_tasks = own.reset_tasks;
      ahead = own.ahead;
    } in
    taken_within s c.args.data_out.now c.args.payload.now c.take_at.new.waiting.items c.take_at.result c.take_at.ensures.ok
    c.take_at.ensures.err
    c.self.invariant
