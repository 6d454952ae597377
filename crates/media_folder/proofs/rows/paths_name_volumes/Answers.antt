use Rattle.media_folder.proofs.Paths.{one_volume}
use Rattle.media_folder.proofs.rows.paths_name_volumes.Goals as goal

pub returns : goal.returns
returns c = one_volume
