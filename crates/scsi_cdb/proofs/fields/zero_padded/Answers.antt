-- What stays of the zeros behind the bytes is as many zeros as are left of 16.
use Rattle.std.proofs.Common.{length, ap, ◌++◌}
use Rattle.std.proofs.lemmas.List.{drop-replicate}
use Rattle.scsi_cdb.proofs.fields.zero_padded.Goals as goal

pub returns : goal.returns
returns c =
    rw c.copy_from_slice.ensures.after (ap (λ z. c.args.bytes.now ++ z) (drop-replicate (length c.args.bytes.now) 16 0))
