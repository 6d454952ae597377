use Rattle.std.proofs.Common.{rules}
use Rattle.command_line.specs.Serving.{HasRoom}
use Rattle.command_line.proofs.serving.serve_task.Goals as goal
use Rattle.command_line.proofs.serving.serve_task.Goals.{in-Serve, in-Check}

pub returns-clause-served : goal.returns-clause-served
returns-clause-served c =
    let room : HasRoom c.args.given.media c.options-library.result = search rules in
    elim c.match-aim.branch [ in-Serve w ↦ search rules | in-Check w ↦ search rules ]
