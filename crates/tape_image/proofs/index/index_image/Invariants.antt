use Rattle.std.proofs.Common.{◌-◌, ◌^◌}
use Rattle.tape_image.proofs.Indexes.{Walked}
use Rattle.tape_image.proofs.index.index_image.Given as goal

-- the index has the objects that were passed
abbrev pub invariant-parts : goal.invariant-parts
invariant-parts g l = Walked (g.R.Read.remaining l.fn.reader) l.image (g.R.Read.remaining l.reader) l.objects.items

abbrev pub decreases-parts : goal.decreases-parts
decreases-parts g l = 2 ^ 64 - l.image.offset
