use Rattle.protected_span.proofs.Theorems.{spans_serve}
use Rattle.protected_span.proofs.laws.spans_serve.Goals as goal

pub returns : goal.returns
returns c = spans_serve
