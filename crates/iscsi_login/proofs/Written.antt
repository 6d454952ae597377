-- One answer of a text after another.
use Rattle.std.proofs.Common.{◌≡◌, ℕ, ◌+◌, ◌-◌, ◌<◌, suc, List, [], ◌++◌, sym, ap, ◌∙◌, append_assoc, append-nil, arith}
use Rattle.std.specs.Result.{result_unwrap_or}
use Rattle.iscsi_keys.specs.Texts.{ItemValue, Pair, first_item}
use Rattle.iscsi_keys.specs.Negotiations.{answered, negotiated}
use Rattle.iscsi_keys.specs.declared.answer.KeyAnswer.{KeyAnswer}
use Rattle.iscsi_keys.specs.declared.answer.KeyAnswer.TheVariants as answer
use Rattle.iscsi_keys.specs.declared.negotiation.Negotiation.{Negotiation}
use Rattle.iscsi_login.specs.AnswerTexts.{answer_item, answers_at, answers_within}

one_fewer : (most i : ℕ) → i < most → most - i ≡ suc (most - (i + 1))
one_fewer most i h = omega arith

item_answers : (most i : ℕ) (n : Negotiation) (text : List ℕ) (item : ItemValue) → i < most → item ≡ first_item text
    → answers_within (most - i) n text ≡ answers_at (answers_within (most - (i + 1))) n item
item_answers most i n text item h e =
    ap (λ k. answers_within k n text) (one_fewer most i h) ∙ ap (answers_at (answers_within (most - (i + 1))) n) (sym e)

-- an item ends the text
pub all_written : (most i : ℕ) (n : Negotiation) (out text whole : List ℕ) (item : ItemValue) → i < most → item ≡ first_item text
    → answers_at (answers_within (most - (i + 1))) n item ≡ [] → out ++ answers_within (most - i) n text ≡ whole → out ≡ whole
all_written most i n out text whole item h e none before =
    sym (append-nil out) ∙ ap (λ ys. out ++ ys) (sym none) ∙ ap (λ ys. out ++ ys) (sym (item_answers most i n text item h e)) ∙ before

-- an item is answered
pub one_written : (most i : ℕ) (n m : Negotiation) (out new text key value rest whole : List ℕ) (a : KeyAnswer) → i < most → Pair key value rest ≡ first_item text
    → m ≡ negotiated n key value → a ≡ result_unwrap_or (answered n key value) answer.Nothing → new ≡ out ++ answer_item n.terms.method key a
    → out ++ answers_within (most - i) n text ≡ whole → new ++ answers_within (most - (i + 1)) m rest ≡ whole
one_written most i n m out new text key value rest whole a h e state answer written before =
    ap (λ xs. xs ++ answers_within (most - (i + 1)) m rest) written
    ∙ ap (λ (b : Negotiation). (out ++ answer_item n.terms.method key a) ++ answers_within (most - (i + 1)) b rest) state
    ∙ append_assoc out (answer_item n.terms.method key a) (answers_within (most - (i + 1)) (negotiated n key value) rest)
    ∙ ap (λ (b : KeyAnswer). out ++ (answer_item n.terms.method key b ++ answers_within (most - (i + 1)) (negotiated n key value) rest)) answer
    ∙ ap (λ ys. out ++ ys) (sym (item_answers most i n text (Pair key value rest) h e))
    ∙ before
