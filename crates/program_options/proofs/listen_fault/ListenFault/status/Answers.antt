use Rattle.std.proofs.Common.{rules}
use Rattle.program_options.proofs.listen_fault.ListenFault.status.Goals as goal

pub returns-in-IsThere : goal.returns-in-IsThere
returns-in-IsThere c = search rules fits 100

pub returns-in-IsThere-2 : goal.returns-in-IsThere-2
returns-in-IsThere-2 c = search rules fits 100

pub returns-in-IsThere-3 : goal.returns-in-IsThere-3
returns-in-IsThere-3 c = search rules fits 100
