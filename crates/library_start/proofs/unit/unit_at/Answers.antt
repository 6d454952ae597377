use Rattle.std.proofs.Common.{rules}
use Rattle.library_start.proofs.unit.unit_at.Goals as goal

pub returns-in-Ok : goal.returns-in-Ok
returns-in-Ok g c = search rules
