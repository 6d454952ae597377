use Rattle.media_folder.proofs.images.find_volumes.Goals as goal

pub tags-preserved : goal.tags-preserved
tags-preserved g c = λ h. c.in_ok-find_volume.ensures (c.tags.invariant h)
