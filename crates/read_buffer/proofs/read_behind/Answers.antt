use Rattle.std.proofs.Common.{sym, take}
use Rattle.read_buffer.proofs.Buffers.{behind, before}
use Rattle.read_buffer.proofs.read_behind.Goals as goal

pub returns-in-Ok-clause-ok : goal.returns-in-Ok-clause-ok
returns-in-Ok-clause-ok g c =
    let got = c.in-Ok.ensures in (
      take c.in-Ok.count c.read.new.buf,
      behind c.args.buffer.now c.read.new.buf _ c.args.end c.in-Ok.count c.requires got.bound.0,
      sym got.bound.1,
      got.bytes.0,
    )

pub returns-in-Err-clause-err : goal.returns-in-Err-clause-err
returns-in-Err-clause-err g c = (before c.args.buffer.now _ c.args.end c.requires, c.in-Err.ensures.bytes)
