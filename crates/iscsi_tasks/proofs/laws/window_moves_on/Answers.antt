use Rattle.iscsi_tasks.proofs.Window.{window_moves_on}
use Rattle.iscsi_tasks.proofs.laws.window_moves_on.Goals as goal

pub returns : goal.returns
returns c = window_moves_on
