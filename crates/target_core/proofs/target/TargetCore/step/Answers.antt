use Rattle.std.proofs.Common.{refl}
use Rattle.std.specs.Prelude.{slice_get}
use Rattle.logical_unit.specs.UnitView.{units_of}
use Rattle.target_core.proofs.InOrder.{commands_order, loses_order, resets_order}
use Rattle.target_core.proofs.target.TargetCore.step.Goals as goal

pub invariant_of-self : goal.invariant_of-self
invariant_of-self g c =
    let us = units_of c.self.inside.units.items in
    commands_order us (units_of c.command_to.new.units.items) c.from.result c.in-Command.nexus c.as_slice.result.now c.as_slice-in-Command.result.now c.command_to.result (slice_get us c.from.result) refl c.command_to.ensures.step c.self.invariant

pub invariant_of-self-in-Loss : goal.invariant_of-self-in-Loss
invariant_of-self-in-Loss g c =
    let us = units_of c.self.inside.units.items in
    loses_order us (units_of c.lose.new.units.items) c.from-in-Loss.result c.in-Loss.nexus c.lose.result (slice_get us c.from-in-Loss.result) refl c.lose.ensures.step c.self.invariant

pub invariant_of-self-in-Reset : goal.invariant_of-self-in-Reset
invariant_of-self-in-Reset g c =
    let us = units_of c.self.inside.units.items in
    resets_order us (units_of c.reset.new.units.items) c.from-in-Reset.result c.reset.result (slice_get us c.from-in-Reset.result) refl c.reset.ensures.step c.self.invariant
