use Rattle.std.proofs.Common.{rules}
use Rattle.judgement.proofs.conditions.condition_of_refusal.Goals as goal

pub returns-in-InvalidRelease : goal.returns-in-InvalidRelease
returns-in-InvalidRelease c = search rules fits 100
