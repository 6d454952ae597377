use Rattle.std.proofs.Common.{arith}
use Rattle.std.proofs.lemmas.Grind.{common_steps}
use Rattle.iscsi_pdu.proofs.writing.write_extended_cdb.Goals as goal

pub returns-clause-len : goal.returns-clause-len
returns-clause-len c = grind (arith, common_steps)

pub returns-clause-ok : goal.returns-clause-ok
returns-clause-ok c = grind (arith, common_steps)

pub returns-in_err-extend_from_slice-2-clause-full : goal.returns-in_err-extend_from_slice-2-clause-full
returns-in_err-extend_from_slice-2-clause-full c = grind (arith, common_steps)

pub returns-clause-full : goal.returns-clause-full
returns-clause-full c = grind (arith, common_steps)
