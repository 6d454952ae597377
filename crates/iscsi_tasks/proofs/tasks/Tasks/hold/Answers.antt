use Rattle.std.proofs.Common.{arith, rules}
use Rattle.iscsi_tasks.specs.Values.{TasksValue}
use Rattle.iscsi_tasks.proofs.Window.{room_to_hold}
use Rattle.iscsi_tasks.proofs.tasks.Tasks.hold.Goals as goal

pub push-requires : goal.push-requires
push-requires c =
    let own = c.self.inside in
    let s : TasksValue = record {
      parameters = own.parameters;
      limit = own.limit;
      exp_cmd_sn = own.exp_cmd_sn;
      waiting = own.waiting.items;
      passed_over = own.passed_over;
      next_tag = own.next_tag;
      in_hand = own.in_hand;
      replies = own.replies.items;
      reset_tasks = own.reset_tasks;
      ahead = own.ahead;
    } in
    (omega arith, room_to_hold s c.self.invariant (search rules))
