use Rattle.tape_image.proofs.Parts.{part_stays}
use Rattle.tape_image.proofs.laws.parts_stay.Goals as goal

pub returns : goal.returns
returns c bytes more known = part_stays bytes more known
