use Rattle.std.proofs.Common.{rules, ap, ◌∙◌, ℕ}
use Rattle.logical_unit.specs.Answers.{count_at, own_number}
use Rattle.kept_unit.proofs.Counting.{stays_kept}
use Rattle.kept_unit.proofs.kept.Kept.step.Goals as goal

pub invariant_of-self : goal.invariant_of-self
invariant_of-self g c =
    stays_kept _ _ _ _ _ _ _ _ c.count_at.result _ _ _ _ c.carry_out-done.ensures.step c.self.invariant
    (c.count_at.ensures ∙ ap (count_at g.row.LUN) (c.carry_out-done.ensures.numbers ∙ ap (λ (lun : ℕ). own_number lun c.carry_out-done.result.reply.number) c.self.invariant.place)) c.add.ensures.total

pub returns-clause-step : goal.returns-clause-step
returns-clause-step g c = search rules fits 100

pub returns-clause-act : goal.returns-clause-act
returns-clause-act g c = search rules fits 100

pub returns-clause-book : goal.returns-clause-book
returns-clause-book g c = search rules fits 100

pub returns-clause-part : goal.returns-clause-part
returns-clause-part g c = search rules fits 100

pub returns-clause-unnumbered : goal.returns-clause-unnumbered
returns-clause-unnumbered g c = search rules fits 100
