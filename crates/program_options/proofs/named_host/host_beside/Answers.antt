use Rattle.std.proofs.Common.{rules}
use Rattle.program_options.proofs.named_host.host_beside.Goals as goal

pub returns-clause-ok : goal.returns-clause-ok
returns-clause-ok c = search rules fits 100
