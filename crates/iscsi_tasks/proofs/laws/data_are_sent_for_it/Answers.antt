use Rattle.iscsi_tasks.proofs.OwnData.{each_has_just}
use Rattle.iscsi_tasks.proofs.laws.data_are_sent_for_it.Goals as goal

pub returns : goal.returns
returns c = each_has_just
