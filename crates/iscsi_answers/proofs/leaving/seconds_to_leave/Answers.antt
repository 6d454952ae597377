use Rattle.std.proofs.Common.{rules}
use Rattle.iscsi_answers.proofs.leaving.seconds_to_leave.Goals as goal

pub returns-else-is_asked : goal.returns-else-is_asked
returns-else-is_asked c = search rules
