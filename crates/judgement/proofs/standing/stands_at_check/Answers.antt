use Rattle.std.proofs.Common.{sym, ◌∙◌}
use Rattle.judgement.proofs.Stands.{from_check}
use Rattle.judgement.proofs.standing.stands_at_check.Goals as goal

pub returns-in-Allowed : goal.returns-in-Allowed
returns-in-Allowed c =
    from_check c.args.state.now c.stands_after_check.new.state c.args.nexus c.args.command.now c.stands_after_check.result
    (sym c.verdict.ensures ∙ c.in-Allowed.is) c.stands_after_check.ensures
