use Rattle.tape_flush.specs.Careful.{stays}
use Rattle.tape_flush.proofs.replacing.cut_back.Goals as goal

pub returns-then-ends_at-clause-goes : goal.returns-then-ends_at-clause-goes
returns-then-ends_at-clause-goes g c = stays _ _
