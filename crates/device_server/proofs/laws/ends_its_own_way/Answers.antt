use Rattle.std.proofs.Common.{refl}
use Rattle.device_server.proofs.Outcomes.{performed_own}
use Rattle.device_server.proofs.laws.ends_its_own_way.Goals as goal

pub returns-clause-ends : goal.returns-clause-ends
returns-clause-ends c = performed_own

pub returns-clause-spec : goal.returns-clause-spec
returns-clause-spec c class = refl
