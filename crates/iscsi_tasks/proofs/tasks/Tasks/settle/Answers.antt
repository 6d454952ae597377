use Rattle.std.proofs.Common.{List, sym, subst}
use Rattle.iscsi_tasks.specs.declared.held_reply.HeldReply.{HeldReply}
use Rattle.iscsi_tasks.specs.Runs.{Settled}
use Rattle.iscsi_tasks.specs.Values.{TasksValue}
use Rattle.iscsi_tasks.specs.Windows.{IsInWindow}
use Rattle.iscsi_tasks.proofs.Window.{step_within}
use Rattle.iscsi_tasks.proofs.tasks.Tasks.settle.Goals as goal

pub invariant_of-self : goal.invariant_of-self
invariant_of-self c =
    let own = c.self.inside in
    let s : TasksValue = record {
      parameters = own.parameters;
      limit = own.limit;
      exp_cmd_sn = own.exp_cmd_sn;
      waiting = own.waiting.items;
      passed_over = own.passed_over;
      next_tag = own.next_tag;
      in_hand = own.in_hand;
      replies = own.replies.items;
      reset_tasks = own.reset_tasks;
      ahead = own.ahead;
    } in
    subst (λ (rs : List HeldReply). IsInWindow (record s { replies = rs })) (sym c.drop_due.ensures)
    (step_within s (Settled c.args.settled c.args.outcome) c.self.invariant)
