use Rattle.std.proofs.Common.{not, rules}
use Rattle.arrayvec.proofs.ArrayVecLemmas.{filter-from_retain}
use Rattle.iscsi_tasks.specs.declared.held_reply.HeldReply.{HeldReply}
use Rattle.iscsi_tasks.specs.Aborts.{is_reply_named}
use Rattle.iscsi_tasks.proofs.holding.drop_reply_named.Goals as goal

pub returns : goal.returns
returns c =
    let test = λ (r : HeldReply). not (is_reply_named c.args.unit c.args.tag r) in
    filter-from_retain _ test _ (λ x b f' y called. (search rules, search rules, search rules)) _ _ c.retain.ensures.filtered
