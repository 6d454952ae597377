use Rattle.tape_image.proofs.Cuts.{cut, cut_ending}
use Rattle.tape_image.proofs.laws.cut_images_are_read.Goals as goal

pub returns-clause-objects : goal.returns-clause-objects
returns-clause-objects c offset count xs can = cut offset count xs can

pub returns-clause-end : goal.returns-clause-end
returns-clause-end c offset count objects xs within = cut_ending offset count objects xs within
