use Rattle.std.proofs.Common.{rules}
use Rattle.program_options.proofs.host.sas_of.Goals as goal

pub returns-in-Ok : goal.returns-in-Ok
returns-in-Ok c = search rules fits 100
