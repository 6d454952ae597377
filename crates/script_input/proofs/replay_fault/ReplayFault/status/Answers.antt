use Rattle.std.proofs.Common.{rules}
use Rattle.script_input.proofs.replay_fault.ReplayFault.status.Goals as goal

pub returns-in-NoMemory : goal.returns-in-NoMemory
returns-in-NoMemory c = search rules
