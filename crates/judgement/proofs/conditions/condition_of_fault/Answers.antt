use Rattle.std.proofs.Common.{rules}
use Rattle.judgement.proofs.conditions.condition_of_fault.Goals as goal

pub returns-in-Opcode : goal.returns-in-Opcode
returns-in-Opcode c = search rules fits 100
