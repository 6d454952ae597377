use Rattle.std.proofs.Common.{rules}
use Rattle.program_options.proofs.serve_until.ServeUntil.sessions.Goals as goal

pub returns-in-InputEnds : goal.returns-in-InputEnds
returns-in-InputEnds c = search rules fits 100
