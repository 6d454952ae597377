use Rattle.std.proofs.Common.{rules}
use Rattle.script_input.proofs.input.read_all.Goals as goal

pub returns-in-Ok-eq0 : goal.returns-in-Ok-eq0
returns-in-Ok-eq0 g c = search rules
