use Rattle.std.proofs.Common.{refl}
use Rattle.std.specs.Global.{Vec}
use Rattle.std.specs.Option.{option_map}
use Rattle.std.specs.Prelude.{slice_get}
use Rattle.audit_log.specs.declared.record.Record.{Record}
use Rattle.logical_unit.specs.UnitView.{units_of}
use Rattle.target_core.proofs.InOrder.{drains_order}
use Rattle.target_core.proofs.target.TargetCore.drain.Goals as goal

pub invariant_of-self : goal.invariant_of-self
invariant_of-self g c =
    let us = units_of c.self.inside.units.items in
    drains_order us (units_of c.drain.new.units.items) c.from.result (option_map (λ (entries : Vec Record). entries.items) c.drain.result) (slice_get us c.from.result) refl c.drain.ensures c.self.invariant
