use Rattle.std.proofs.Common.{◌-◌, length}
use Rattle.tape_image.specs.Filling.{Added}
use Rattle.tape_image.specs.Limits.{part_limit}
use Rattle.tape_image.specs.Parts.{image_part}
use Rattle.tape_image.specs.Walking.{HasNoMore}
use Rattle.tape_image.proofs.reader.await_known.Given as goal

-- all that was read is pending, and no more than was wanted
abbrev pub invariant-reads : goal.invariant-reads
invariant-reads g l = record {
  read : Added l.fn.part l.part (g.R.Read.remaining l.fn.reader) (g.R.Read.remaining l.reader);
  most : HasNoMore (length l.part) (image_part l.part);
}

abbrev pub decreases-reads : goal.decreases-reads
decreases-reads g l = part_limit - length l.part
