use Rattle.tape_image.proofs.CutBack.{written_on}
use Rattle.tape_image.proofs.laws.images_are_written_on.Goals as goal

pub returns : goal.returns
returns c offset count bytes xs stop ys r can = written_on offset count bytes xs stop ys r can
