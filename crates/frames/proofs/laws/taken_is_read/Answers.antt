use Rattle.std.proofs.Common.{true, refl}
use Rattle.frames.proofs.Taking.{taken_is_read}
use Rattle.frames.proofs.laws.taken_is_read.Goals as goal

pub returns : goal.returns
returns c p pending rest fs gs stop took more = taken_is_read p true pending fs rest gs stop refl took more
