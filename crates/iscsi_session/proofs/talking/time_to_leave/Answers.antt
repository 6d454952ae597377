use Rattle.std.proofs.Common.{rules}
use Rattle.iscsi_session.proofs.talking.time_to_leave.Goals as goal

pub returns : goal.returns
returns g c = search rules
