use Rattle.iscsi_chap.proofs.Apart.{taken_apart}
use Rattle.iscsi_chap.proofs.laws.secrets_apart.Goals as goal

pub returns : goal.returns
returns c text entries is = taken_apart text entries is
