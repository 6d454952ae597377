use Rattle.std.proofs.Common.{not, rules}
use Rattle.std.proofs.lemmas.Fn.{filter_same}
use Rattle.iscsi_tasks.specs.Values.{TaskValue}
use Rattle.iscsi_tasks.specs.Aborts.{is_at}
use Rattle.iscsi_tasks.proofs.waiting.drop_at.Goals as goal

pub returns : goal.returns
returns c =
    let test = λ (t : TaskValue). not (is_at c.args.unit t) in
    filter_same _ test _ (λ x b f called. (search rules, search rules)) _ _ c.retain.ensures.filtered
