use Rattle.iscsi_tasks.proofs.Pieces.{all_made}
use Rattle.iscsi_tasks.proofs.laws.data_are_its_own.Goals as goal

pub returns : goal.returns
returns c = all_made
