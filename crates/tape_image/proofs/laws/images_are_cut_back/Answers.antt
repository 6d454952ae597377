use Rattle.tape_image.proofs.CutBack.{whole_within_bytes, cut_back}
use Rattle.tape_image.proofs.laws.images_are_cut_back.Goals as goal

pub returns-clause-whole : goal.returns-clause-whole
returns-clause-whole c offset bytes xs stop r = whole_within_bytes offset bytes xs stop r

pub returns-clause-reads : goal.returns-clause-reads
returns-clause-reads c offset bytes xs stop r = cut_back offset bytes xs stop r
