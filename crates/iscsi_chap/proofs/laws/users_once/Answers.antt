use Rattle.iscsi_chap.proofs.Once.{taken_once}
use Rattle.iscsi_chap.proofs.laws.users_once.Goals as goal

pub returns : goal.returns
returns c text entries is = taken_once text entries is
