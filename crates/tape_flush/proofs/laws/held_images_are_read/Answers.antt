use Rattle.tape_flush.proofs.Flushes.{held_is_read}
use Rattle.tape_flush.proofs.laws.held_images_are_read.Goals as goal

pub returns : goal.returns
returns c image known others h = held_is_read image known others h
