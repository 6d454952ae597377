use Rattle.std.proofs.Common.{◌-◌, ◌^◌}
use Rattle.tape_flush.proofs.Readings.{Passed}
use Rattle.tape_flush.proofs.reading.read_tape.Given as goal

-- the tape and the index have the objects that were passed
abbrev pub invariant-parts : goal.invariant-parts
invariant-parts g l = Passed (g.R.Read.remaining l.fn.reader) l.image (g.R.Read.remaining l.reader) l.fn.capacity l.tape l.objects.items

abbrev pub decreases-parts : goal.decreases-parts
decreases-parts g l = 2 ^ 64 - l.image.offset
