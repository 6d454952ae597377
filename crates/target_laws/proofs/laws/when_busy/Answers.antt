use Rattle.target_laws.proofs.BusyRows.{when_busy}
use Rattle.target_laws.proofs.laws.when_busy.Goals as goal

pub returns : goal.returns
returns c = when_busy
