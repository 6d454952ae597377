use Rattle.std.proofs.Common.{not, rules}
use Rattle.std.proofs.lemmas.Fn.{filter_same}
use Rattle.iscsi_tasks.specs.Values.{TaskValue}
use Rattle.iscsi_tasks.specs.Aborts.{is_named}
use Rattle.iscsi_tasks.proofs.waiting.drop_named.Goals as goal

pub returns : goal.returns
returns c =
    let test = λ (t : TaskValue). not (is_named c.args.unit c.args.tag t) in
    filter_same _ test _ (λ x b f called. (search rules, search rules)) _ _ c.retain.ensures.filtered
