use Rattle.std.proofs.Common.{not}
use Rattle.iscsi_tasks.specs.declared.held_reply.HeldReply.{HeldReply}
use Rattle.iscsi_tasks.specs.Aborts.{is_named, is_reply_named}
use Rattle.iscsi_tasks.specs.Values.{TaskValue, TasksValue}
use Rattle.iscsi_tasks.proofs.Window.{filtered_within}
use Rattle.iscsi_tasks.proofs.tasks.Tasks.abort_task.Goals as goal

pub invariant_of-self : goal.invariant_of-self
invariant_of-self c =
    let own = c.self.inside in
    let s : TasksValue = record {
      parameters = own.parameters;
      limit = own.limit;
      exp_cmd_sn = own.exp_cmd_sn;
      waiting = own.waiting.items;
      passed_over = own.passed_over;
      next_tag = own.next_tag;
      in_hand = own.in_hand;
      replies = own.replies.items;
      reset_tasks = own.reset_tasks;
      ahead = own.ahead;
    } in
    let unit = c.args.unit in
    let tag = c.args.initiator_task_tag in
    filtered_within s (λ (t : TaskValue). not (is_named unit tag t)) (λ (r : HeldReply). not (is_reply_named unit tag r))
    c.drop_named.new.waiting.items c.drop_reply_named.new.replies.items c.remember.new.self c.drop_named.ensures c.drop_reply_named.ensures
    c.self.invariant
