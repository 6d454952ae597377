use Rattle.std.proofs.Common.{◌∷◌, [], refl, ap, ◌∙◌}
use Rattle.std.proofs.lemmas.List.Elements.{All-cons, All-nil}
use Rattle.iscsi_tasks.specs.Values.{TasksValue}
use Rattle.iscsi_tasks.specs.Aborts.{reset_by_another}
use Rattle.iscsi_session.proofs.resets.drop_reset.Goals as goal
use Rattle.iscsi_session.proofs.resets.drop_reset.Goals.{then-was_reset, else-was_reset}

pub units-init : goal.units-init
units-init g c = ([], All-nil (g.G.SessionRegister.resets c.args.register.now), refl)

pub units-preserved : goal.units-preserved
units-preserved g c =
    let so = c.units.invariant in elim c.if-was_reset.branch [
      | then-was_reset w ↦ (
        c.units.unit ∷ so.0,
        All-cons (g.G.SessionRegister.resets c.args.register.now) c.units.unit so.0 (c.was_reset.ensures w.if-was_reset.true) so.1,
        w.tasks-is ∙ w.reset_unit.ensures ∙ ap (λ (k : TasksValue). reset_by_another k c.units.unit) so.2,
      )
      | else-was_reset w ↦ (so.0, so.1, w.tasks-is ∙ so.2)
    ]
