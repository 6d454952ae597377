use Rattle.std.proofs.Common.{rules}
use Rattle.judgement.proofs.command.passes_over.Goals as goal

pub returns-in_default : goal.returns-in_default
returns-in_default c = search rules fits 100
