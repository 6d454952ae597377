use Rattle.std.proofs.Common.{sym, take, arith}
use Rattle.tape_image.proofs.Buffers.{behind, before}
use Rattle.tape_image.proofs.part_buffer.read_behind.Goals as goal

pub returns-in-Ok-clause-ok : goal.returns-in-Ok-clause-ok
returns-in-Ok-clause-ok g c =
    let got = c.in-Ok.ensures in (
      take c.in-Ok.count c.read.new.buf,
      behind c.args.buffer.now c.read.new.buf _ c.args.start c.in-Ok.count (omega (arith, c.requires.order, c.requires.within)) got.bound.0,
      sym got.bound.1,
      got.bytes.0,
    )

pub returns-in-Err-clause-err : goal.returns-in-Err-clause-err
returns-in-Err-clause-err g c = (before c.args.buffer.now _ c.args.start (omega (arith, c.requires.order, c.requires.within)), c.in-Err.ensures.bytes)
