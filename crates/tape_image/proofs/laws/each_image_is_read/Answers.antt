use Rattle.tape_image.proofs.Images.{each_reads}
use Rattle.tape_image.proofs.laws.each_image_is_read.Goals as goal

pub returns : goal.returns
returns c offset bytes = each_reads offset bytes
