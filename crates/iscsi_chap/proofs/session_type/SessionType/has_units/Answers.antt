use Rattle.std.proofs.Common.{rules}
use Rattle.iscsi_chap.proofs.session_type.SessionType.has_units.Goals as goal

pub returns-in-Discovery-clause-normal : goal.returns-in-Discovery-clause-normal
returns-in-Discovery-clause-normal c = search rules
