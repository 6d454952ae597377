use Rattle.std.proofs.Common.{ℕ, subst}
use Rattle.session.specs.Serving.{IsLostBelow}
use Rattle.session.proofs.serving.lose_at_units.Goals as goal

pub returns : goal.returns
returns g c =
    subst (λ (units : ℕ). IsLostBelow g.S.Service.notes c.args.nexus units c.args.service.now c.lose_all.new.service c.lose_all.result)
    c.units-units.ensures c.lose_all.ensures
