use Rattle.std.proofs.Common.{rules, tests}
use Rattle.std.specs.Str.{bytes_eq}
use Rattle.std.proofs.lemmas.Iterator.{YieldsList-from_slice}
use Rattle.std.proofs.lemmas.Iterator.Search.{any_from_yields_List}
use Rattle.given_options.specs.Keys.{key_text}
use Rattle.configuration_file.proofs.reading.is_key.Goals as goal

pub returns : goal.returns
returns c =
    any_from_yields_List (λ key. bytes_eq (key_text key) c.args.name.now) _ _ _ c.any.ensures.ran (YieldsList-from_slice _ c.iter.ensures.rest)
    (λ x b q k. search (rules, tests))
