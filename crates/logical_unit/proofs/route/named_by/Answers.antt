use Rattle.std.proofs.Common.{rules}
use Rattle.logical_unit.proofs.route.named_by.Goals as goal

pub returns-in-Some-Some-2 : goal.returns-in-Some-Some-2
returns-in-Some-Some-2 c = search rules fits 100
