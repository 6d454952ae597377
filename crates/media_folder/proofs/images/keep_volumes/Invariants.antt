use Rattle.media_folder.specs.Volumes.{AreRead, AreVolumesOf}
use Rattle.media_folder.proofs.images.keep_volumes.Given as goal

-- if those that were found are volumes of the folder, those that are kept so far are
abbrev pub invariant-volumes : goal.invariant-volumes
invariant-volumes g l = AreRead l.folder l.fn.found.volumes.items → AreVolumesOf l.folder l.kept.items
