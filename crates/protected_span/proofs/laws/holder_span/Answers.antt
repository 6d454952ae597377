use Rattle.protected_span.proofs.Theorems.{holder_span}
use Rattle.protected_span.proofs.laws.holder_span.Goals as goal

pub returns : goal.returns
returns c = holder_span
