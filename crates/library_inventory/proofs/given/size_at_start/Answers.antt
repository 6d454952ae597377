use Rattle.std.proofs.Common.{rules}
use Rattle.library_inventory.proofs.given.size_at_start.Goals as goal

pub returns-in_err-agree-in-Some-3 : goal.returns-in_err-agree-in-Some-3
returns-in_err-agree-in-Some-3 c = search rules

pub returns-in_ok-agree-in-Some-3 : goal.returns-in_ok-agree-in-Some-3
returns-in_ok-agree-in-Some-3 c = search rules
