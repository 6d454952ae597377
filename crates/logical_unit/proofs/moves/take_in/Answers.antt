use Rattle.logical_unit.proofs.NumbersOf.{in_last}
use Rattle.logical_unit.proofs.moves.take_in.Goals as goal

pub returns-clause-last : goal.returns-clause-last
returns-clause-last g c = in_last c.args.drive.now.unit c.medium_in.new.self.unit _ c.in-Ok.ensures.ok
