use Rattle.std.proofs.Common.{not, rules}
use Rattle.arrayvec.proofs.ArrayVecLemmas.{filter-from_retain}
use Rattle.iscsi_tasks.specs.declared.held_reply.HeldReply.{HeldReply}
use Rattle.iscsi_tasks.specs.Holding.{is_due}
use Rattle.iscsi_tasks.proofs.holding.drop_due.Goals as goal

pub returns : goal.returns
returns c =
    let test = λ (r : HeldReply). not (is_due c.args.settled r) in
    filter-from_retain _ test _ (λ x b f' y called. (search rules, search rules, search rules)) _ _ c.retain.ensures.filtered
