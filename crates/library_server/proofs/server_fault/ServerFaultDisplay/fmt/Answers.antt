use Rattle.std.proofs.Common.{arith}
use Rattle.std.proofs.lemmas.Grind.{common_steps}
use Rattle.library_server.proofs.server_fault.ServerFaultDisplay.fmt.Goals as goal

pub returns-in_ok-write_str-in-Close-clause-writes : goal.returns-in_ok-write_str-in-Close-clause-writes
returns-in_ok-write_str-in-Close-clause-writes g c = grind (arith, common_steps)
