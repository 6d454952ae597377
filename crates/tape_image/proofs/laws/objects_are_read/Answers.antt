use Rattle.tape_image.proofs.Cuts.{image_first, image_whole}
use Rattle.tape_image.proofs.Written.{object_again}
use Rattle.tape_image.proofs.laws.objects_are_read.Goals as goal

pub returns-clause-part : goal.returns-clause-part
returns-clause-part c x rest can = object_again x rest can

pub returns-clause-image : goal.returns-clause-image
returns-clause-image c offset xs can = image_whole offset xs can

pub returns-clause-rest : goal.returns-clause-rest
returns-clause-rest c offset xs rest others stop can more = image_first offset xs rest others stop can more
