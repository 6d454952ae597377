use Rattle.std.proofs.Common.{◌≤◌, List, length, sym, subst}
use Rattle.iscsi_tasks.specs.Limits.{most_waiting}
use Rattle.iscsi_tasks.specs.Values.{TaskValue, TasksValue}
use Rattle.iscsi_tasks.proofs.Window.{few_waiting}
use Rattle.iscsi_tasks.proofs.tasks.Tasks.under_way.Goals as goal

pub waiting_of-requires : goal.waiting_of-requires
waiting_of-requires c =
    let own = c.self.inside in
    let s : TasksValue = record {
      parameters = own.parameters;
      limit = own.limit;
      exp_cmd_sn = own.exp_cmd_sn;
      waiting = own.waiting.items;
      passed_over = own.passed_over;
      next_tag = own.next_tag;
      in_hand = own.in_hand;
      replies = own.replies.items;
      reset_tasks = own.reset_tasks;
      ahead = own.ahead;
    } in
    subst (λ (ts : List TaskValue). length ts ≤ most_waiting) (sym c.as_slice.ensures.value) (few_waiting s c.self.invariant)
