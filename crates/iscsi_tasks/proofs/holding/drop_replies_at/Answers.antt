use Rattle.std.proofs.Common.{not, rules}
use Rattle.arrayvec.proofs.ArrayVecLemmas.{filter-from_retain}
use Rattle.iscsi_tasks.specs.declared.held_reply.HeldReply.{HeldReply}
use Rattle.iscsi_tasks.specs.Aborts.{is_reply_at}
use Rattle.iscsi_tasks.proofs.holding.drop_replies_at.Goals as goal

pub returns : goal.returns
returns c =
    let test = λ (r : HeldReply). not (is_reply_at c.args.unit r) in
    filter-from_retain _ test _ (λ x b f' y called. (search rules, search rules, search rules)) _ _ c.retain.ensures.filtered
