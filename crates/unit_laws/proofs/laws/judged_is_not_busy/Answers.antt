use Rattle.logical_unit.proofs.History.{answers_no_busy}
use Rattle.unit_laws.proofs.laws.judged_is_not_busy.Goals as goal

pub returns : goal.returns
returns c = answers_no_busy
