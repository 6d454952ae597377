use Rattle.media_folder.specs.Volumes.{AreRead}
use Rattle.media_folder.proofs.images.find_volumes.Given as goal

-- if those that were found before are volumes of the folder, all so far are
abbrev pub invariant-tags : goal.invariant-tags
invariant-tags g l = AreRead l.folder.given.now l.initial.found.volumes.items → AreRead l.folder.given.now l.found.volumes.items
