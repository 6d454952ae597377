use Rattle.std.proofs.Common.{◌≡◌, ◌+◌, ◌-◌, ◌++◌, length}
use Rattle.iscsi_login.specs.AnswerTexts.{answers_to, answers_within}
use Rattle.iscsi_login.proofs.answers.write_offers.Given as goal

-- what is written, with the answers to what is left
abbrev pub invariant-items : goal.invariant-items
invariant-items l =
    l.out.items ++ answers_within (length l.text + 1 - l.counter) l.negotiation l.left ≡ l.initial.out.items ++ answers_to l.fn.negotiation l.text
