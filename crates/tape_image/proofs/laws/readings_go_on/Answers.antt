use Rattle.tape_image.proofs.Images.{joined}
use Rattle.tape_image.proofs.laws.readings_go_on.Goals as goal

pub returns : goal.returns
returns c offset bytes more xs ys s t r on = joined offset bytes xs s r more ys t on
