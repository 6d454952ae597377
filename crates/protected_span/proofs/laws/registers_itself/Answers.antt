use Rattle.protected_span.proofs.RegistersItself.{names_itself}
use Rattle.protected_span.proofs.laws.registers_itself.Goals as goal

pub returns : goal.returns
returns c = names_itself
