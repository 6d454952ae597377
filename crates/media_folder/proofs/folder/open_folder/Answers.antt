use Rattle.std.proofs.Common.{ℕ, List, subst}
use Rattle.media_folder.specs.Volumes.{AreRead}
use Rattle.media_folder.proofs.folder.open_folder.Goals as goal

pub returns-clause-volumes : goal.returns-clause-volumes
returns-clause-volumes g c =
    let found = c.in_ok-find_volumes.ensures c.in_ok-read.ensures.volumes in
    let at_path = subst (λ (folder : List ℕ). AreRead folder c.find_volumes.new.found.volumes.items) c.paths-paths.ensures found in
    c.in_ok-volumes.ensures at_path
