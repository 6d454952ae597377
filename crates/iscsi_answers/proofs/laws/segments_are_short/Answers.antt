use Rattle.std.proofs.Common.{length}
use Rattle.iscsi_answers.proofs.Carried.{all_short}
use Rattle.iscsi_answers.proofs.laws.segments_are_short.Goals as goal

pub returns : goal.returns
returns c t bytes = all_short (length bytes) t 0 0 bytes
