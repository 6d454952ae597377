use Rattle.std.proofs.Common.{sym, ◌∙◌}
use Rattle.record_lines.proofs.Counting.{added_at, is_new}
use Rattle.record_lines.specs.CountsSeen.{kind_seen}
use Rattle.record_lines.proofs.counts.add_to.Goals as goal

pub returns-in_default-clause-absent : goal.returns-in_default-clause-absent
returns-in_default-clause-absent c = λ is. is_new c.args.counts.now (kind_seen c.args.kind) (record { kind = c.args.kind; count = 0 }) (sym c.place_of.ensures ∙ c.in_default.is)

pub returns-clause-added : goal.returns-clause-added
returns-clause-added c = λ is. added_at _ (kind_seen c.args.kind) _ _ _ (sym c.place_of.ensures ∙ c.in-Some.is) c.saturating_add.ensures
