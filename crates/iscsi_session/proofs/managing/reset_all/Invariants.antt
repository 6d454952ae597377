use Rattle.iscsi_session.specs.Managing.{ResetsBelow}
use Rattle.iscsi_session.proofs.managing.reset_all.Given as goal

abbrev pub invariant-units : goal.invariant-units
invariant-units g l = ResetsBelow g.S.Service.notes l.unit l.fn.tasks l.fn.service l.tasks l.service l.result
