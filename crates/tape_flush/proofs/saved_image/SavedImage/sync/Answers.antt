use Rattle.tape_flush.specs.Careful.{stays}
use Rattle.tape_flush.proofs.saved_image.SavedImage.sync.Goals as goal

pub returns-then-is_on_disk-clause-goes : goal.returns-then-is_on_disk-clause-goes
returns-then-is_on_disk-clause-goes g c = stays _ _
