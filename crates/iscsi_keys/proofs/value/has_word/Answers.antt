use Rattle.std.proofs.Common.{rules, tests, ◌==◌}
use Rattle.std.specs.Str.{bytes_eq}
use Rattle.std.proofs.lemmas.Iterator.Search.{any_from_yields_List}
use Rattle.std.proofs.lemmas.Iterator.Splits.{YieldsList-from_slice_split}
use Rattle.iscsi_keys.specs.Words.{word_text}
use Rattle.iscsi_keys.proofs.value.has_word.Goals as goal

pub returns : goal.returns
returns c =
    any_from_yields_List (λ e. bytes_eq e (word_text c.args.word)) _ _ _ c.any.ensures.ran
    (YieldsList-from_slice_split _ (λ b. b == 44) c.args.value.now c.split.ensures.rest c.split.ensures.done c.split.ensures.closure (λ x b q k. search (rules, tests)))
    (λ x b q k. search (rules, tests))
