use Rattle.std.proofs.Common.{rules, tests, ◌∙◌}
use Rattle.std.specs.Str.{bytes_eq}
use Rattle.std.proofs.lemmas.Iterator.{YieldsList-from_slice}
use Rattle.std.proofs.lemmas.Iterator.Search.{find_from_yields_List}
use Rattle.iscsi_keys.specs.Keys.{key_name, all_keys}
use Rattle.iscsi_keys.proofs.value.key_named.Goals as goal

pub returns : goal.returns
unfolding all_keys
returns c =
    c.copied.ensures
    ∙ find_from_yields_List (λ k. bytes_eq (key_name k) c.args.name.now) _ _ c.find.result c.find.ensures.ran (YieldsList-from_slice all_keys c.iter.ensures.rest)
    (λ x b q k. search (rules, tests))
