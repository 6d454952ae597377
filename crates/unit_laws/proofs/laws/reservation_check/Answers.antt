use Rattle.unit_laws.proofs.Check.{is_decided}
use Rattle.unit_laws.proofs.laws.reservation_check.Goals as goal

pub returns : goal.returns
returns c = is_decided
