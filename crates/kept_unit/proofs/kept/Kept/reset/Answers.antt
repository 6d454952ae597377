use Rattle.std.proofs.Common.{ap, ◌∙◌, ℕ}
use Rattle.logical_unit.specs.Answers.{count_at, own_number}
use Rattle.kept_unit.proofs.Counting.{reset_kept}
use Rattle.kept_unit.proofs.kept.Kept.reset.Goals as goal

pub invariant_of-self : goal.invariant_of-self
invariant_of-self g c =
    reset_kept _ _ _ _ _ c.count_at.result _ _ _ _ c.carry_out_reset-done.ensures.step c.self.invariant
    (c.count_at.ensures ∙ ap (count_at g.row.LUN) (c.carry_out_reset-done.ensures.numbers ∙ ap (λ (lun : ℕ). own_number lun c.carry_out_reset-done.result.reply.number) c.self.invariant.place)) c.add.ensures.total
