use Rattle.std.proofs.lemmas.Grind.{common_steps}
use Rattle.std.proofs.Common.{arith, ◌<◌, ◌/◌, length, length-append, take}
use Rattle.tape_medium.specs.Tape.{blocks}
use Rattle.tape_medium.proofs.BlockLemmas.{IsTape-put, length-blocks, bytes_in-whole}
use Rattle.tape_medium.proofs.LengthLemmas.{HaveLengths-put, HaveLengths-blocks}
use Rattle.tape_medium.proofs.WriteLemmas.{whole-blocks}
use Rattle.std.proofs.lemmas.List.{length-take-le}
use Rattle.tape_medium.proofs.tape.Tape.write_blocks.Goals as goal

pub invariant_of-self-2 : goal.invariant_of-self-2
invariant_of-self-2 c =
    let some : 0 < c.args.size = omega arith in
    let whole = bytes_in-whole c.args.size c.args.bytes.now some (omega arith) in
    let count = length c.args.bytes.now / c.args.size in
    let is = whole-blocks (length c.args.bytes.now) c.args.size some (omega arith) in
    let lengths = HaveLengths-blocks c.args.size count c.args.bytes.now (omega arith) (omega arith) (omega (arith, is)) in
    let longer = length-append (take c.self.inside.position c.self.inside.store) (blocks c.args.size count c.args.bytes.now) in
    rw (c.in-Ok.ensures.ok) (IsTape-put _ _ _ _ _ c.self.invariant.0 (length-blocks _ _ _) (omega (arith, whole)) (omega arith), HaveLengths-put c.self.inside.store (blocks c.args.size count c.args.bytes.now) c.self.inside.position c.self.invariant.1 lengths, omega (arith, longer, length-take-le c.self.inside.position c.self.inside.store c.self.invariant.0.within))

pub overflow_add-bytes_before : goal.overflow_add-bytes_before
overflow_add-bytes_before c = grind (arith, common_steps)
