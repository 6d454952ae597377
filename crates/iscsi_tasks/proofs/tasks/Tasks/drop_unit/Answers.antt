use Rattle.std.proofs.Common.{not}
use Rattle.iscsi_tasks.specs.declared.held_reply.HeldReply.{HeldReply}
use Rattle.iscsi_tasks.specs.Aborts.{is_at, is_reply_at}
use Rattle.iscsi_tasks.specs.Values.{TaskValue, TasksValue}
use Rattle.iscsi_tasks.proofs.Window.{filtered_within}
use Rattle.iscsi_tasks.proofs.tasks.Tasks.drop_unit.Goals as goal

pub invariant_of-self : goal.invariant_of-self
invariant_of-self c =
    let own = c.self.inside in
    let s : TasksValue = record {
      parameters = own.parameters;
      limit = own.limit;
      exp_cmd_sn = own.exp_cmd_sn;
      waiting = own.waiting.items;
      passed_over = own.passed_over;
      next_tag = own.next_tag;
      in_hand = own.in_hand;
      replies = own.replies.items;
      reset_tasks = own.reset_tasks;
      ahead = own.ahead;
    } in
    filtered_within s (λ (t : TaskValue). not (is_at c.args.unit t)) (λ (r : HeldReply). not (is_reply_at c.args.unit r))
    c.drop_at.new.waiting.items c.drop_replies_at.new.replies.items c.remember_at.new.passed_over c.drop_at.ensures
    c.drop_replies_at.ensures
    c.self.invariant
