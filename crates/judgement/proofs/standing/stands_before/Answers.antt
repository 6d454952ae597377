use Rattle.std.proofs.Common.{rules}
use Rattle.judgement.proofs.Stands.{from_first}
use Rattle.judgement.proofs.standing.stands_before.Goals as goal

pub returns-in-None : goal.returns-in-None
returns-in-None c =
    from_first c.args.state.now c.stands_at_check.new.state c.args.nexus c.args.command.now c.stands_at_check.result (search rules)
    c.stands_at_check.ensures
