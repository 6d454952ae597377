-- A command of a nexus that may not change what is in a unit, at a target: it changes that unit alone.
use Rattle.std.proofs.Common.{List, Option, ap, ◌∙◌, subst}
use Rattle.std.specs.Prelude.{slice_get}
use Rattle.logical_unit.specs.UnitView.{UnitView}
use Rattle.logical_unit.proofs.Contents as contents
use Rattle.target_core.specs.Run.{CommandsAt}
use Rattle.target_core.proofs.History.{get-set_same, get-set_other}
use Rattle.protected_span.specs.Contents.{OutsiderChangesNothing}
use Rattle.protected_span.proofs.Changer.{alone_at}

pub changes_nothing : OutsiderChangesNothing
changes_nothing us ms at u n cdb bytes r here closed step =
    let a = alone_at u n closed us ms at cdb.items bytes.items r (subst (λ (o : Option UnitView). CommandsAt us at o n cdb.items bytes.items (ms, r)) here step) in
    record {
      unit = a.unit;
      place = ap (λ (xs : List UnitView). slice_get xs at) a.units ∙ get-set_same us at a.unit u here;
      contents = contents.changes_nothing u a.unit n cdb.items bytes.items r closed a.step;
      others = λ k apart. ap (λ (xs : List UnitView). slice_get xs k) a.units ∙ get-set_other us at k a.unit apart;
    }
