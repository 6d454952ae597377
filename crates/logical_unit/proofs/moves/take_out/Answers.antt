use Rattle.logical_unit.proofs.NumbersOf.{out_last}
use Rattle.logical_unit.proofs.moves.take_out.Goals as goal

pub returns-clause-last : goal.returns-clause-last
returns-clause-last g c = out_last c.args.drive.now.unit c.medium_out.new.self.unit _ c.in-Ok.ensures.ok
