use Rattle.tape_image.proofs.Images.{one_reading}
use Rattle.tape_image.proofs.laws.one_reading.Goals as goal

pub returns : goal.returns
returns c offset bytes xs ys s t r q = one_reading offset bytes xs s r ys t q
