use Rattle.tape_image.proofs.Images.{beginning}
use Rattle.tape_image.proofs.laws.beginnings_are_read.Goals as goal

pub returns : goal.returns
returns c offset count bytes xs ys s t r q = beginning offset count bytes xs ys s t r q
