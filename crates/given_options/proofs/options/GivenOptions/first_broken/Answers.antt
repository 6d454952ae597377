use Rattle.std.proofs.Common.{rules, tests, ◌∙◌}
use Rattle.std.proofs.lemmas.Iterator.{YieldsList-from_slice}
use Rattle.std.proofs.lemmas.Iterator.Search.{find_from_yields_List}
use Rattle.given_options.specs.Rules.{is_broken, option_rules}
use Rattle.given_options.proofs.options.GivenOptions.first_broken.Goals as goal

pub returns : goal.returns
returns c =
    c.copied.ensures
    ∙ find_from_yields_List (λ rule. is_broken c.args.self.now rule) _ _ c.find.result c.find.ensures.ran (YieldsList-from_slice option_rules c.iter.ensures.rest)
    (λ x b q k. search (rules, tests))
