use Rattle.protected_span.proofs.Contents.{changes_nothing}
use Rattle.protected_span.proofs.laws.outsider_changes_nothing.Goals as goal

pub returns : goal.returns
returns c = changes_nothing
