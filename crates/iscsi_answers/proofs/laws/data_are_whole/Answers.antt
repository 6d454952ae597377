use Rattle.std.proofs.Common.{length, arith}
use Rattle.iscsi_answers.proofs.Carried.{whole}
use Rattle.iscsi_answers.proofs.laws.data_are_whole.Goals as goal

pub returns : goal.returns
returns c t bytes = whole (length bytes) t 0 0 bytes (omega arith)
