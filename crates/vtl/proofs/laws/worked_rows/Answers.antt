use Rattle.std.proofs.Common.{refl}
use Rattle.std.specs.Fmt.{digits}
use Rattle.vtl.proofs.laws.worked_rows.Goals as goal

pub returns-clause-lines : goal.returns-clause-lines
unfolding digits
returns-clause-lines c = record { done = refl; not_text = refl; more_volumes = refl; bad_nexus = refl; faulty_line = refl; no_memory = refl; failed_read = refl; bad_reply = refl }
