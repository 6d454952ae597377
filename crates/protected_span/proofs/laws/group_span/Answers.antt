use Rattle.protected_span.proofs.Theorems.{group_span}
use Rattle.protected_span.proofs.laws.group_span.Goals as goal

pub returns : goal.returns
returns c = group_span
