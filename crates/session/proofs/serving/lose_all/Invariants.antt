use Rattle.session.specs.Serving.{IsLostBelow}
use Rattle.session.proofs.serving.lose_all.Given as goal

abbrev pub invariant-units : goal.invariant-units
invariant-units g l = IsLostBelow g.S.Service.notes l.nexus l.lun l.fn.service l.service l.is_lost
