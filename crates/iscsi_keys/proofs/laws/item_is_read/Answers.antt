use Rattle.iscsi_keys.proofs.Items.{item_again}
use Rattle.iscsi_keys.proofs.laws.item_is_read.Goals as goal

pub returns : goal.returns
returns c key value rest h i j = item_again key value rest h i j
