use Rattle.std.proofs.Common.{rules}
use Rattle.judgement.proofs.Stands.{takes_where_carried}
use Rattle.judgement.proofs.stages.judge_command.Goals as goal

pub returns-in_err-decision-in-LetThrough-clause-want : goal.returns-in_err-decision-in-LetThrough-clause-want
returns-in_err-decision-in-LetThrough-clause-want g c =
    let carried = takes_where_carried c.args.state.now c.stands_before.new.state c.args.nexus c.args.command.now c.in-LetThrough.in_cell
    (g.D.DeviceServer.shown c.args.device.now.value) (search rules) c.in-LetThrough.ensures in
    search rules
