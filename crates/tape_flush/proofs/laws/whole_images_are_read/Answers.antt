use Rattle.tape_flush.proofs.Flushes.{whole_is_read}
use Rattle.tape_flush.proofs.laws.whole_images_are_read.Goals as goal

pub returns : goal.returns
returns c image objects h = whole_is_read image objects h
