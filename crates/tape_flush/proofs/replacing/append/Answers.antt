use Rattle.tape_flush.specs.Careful.{stays}
use Rattle.tape_flush.proofs.replacing.append.Goals as goal

pub returns-in_err-extend_from_slice-clause-goes : goal.returns-in_err-extend_from_slice-clause-goes
returns-in_err-extend_from_slice-clause-goes g c = stays _ _
