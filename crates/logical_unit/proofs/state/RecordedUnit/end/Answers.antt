use Rattle.std.proofs.Common.{sym, subst}
use Rattle.logical_unit.specs.MoveJudgement.{AwaitsEnd}
use Rattle.logical_unit.specs.UnitView.{RecordedUnitView}
use Rattle.logical_unit.proofs.Legal.{ended_stands}
use Rattle.logical_unit.proofs.state.RecordedUnit.end.Goals as goal

pub invariant_of-self : goal.invariant_of-self
invariant_of-self c =
    rw c.note-number.ensures.records
    (ended_stands c.self.inside.base c.self.inside.state c.self.inside.trail.records c.args.nexus _ _ c.args.act c.args.decision _ c.self.invariant (subst (λ (v : RecordedUnitView). AwaitsEnd v.state c.args.nexus c.args.act c.args.decision) (sym c.self.view_is) c.requires.awaits) c.requires.whole)
