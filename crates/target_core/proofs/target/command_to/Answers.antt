use Rattle.std.proofs.Common.{ℕ, List, Option, refl, sym, ◌∙◌, subst}
use Rattle.logical_unit.specs.UnitView.{UnitView, UnitWithRoom, units_of}
use Rattle.target_core.specs.Busy.{CommandIsBusyOnlyFor, BusyOnlyAt}
use Rattle.target_core.specs.Run.{CommandsAt, Commands}
use Rattle.target_core.proofs.Places.{put_back, none_at, none_there}
use Rattle.target_core.proofs.WhyBusy.{absent_busy}
use Rattle.target_core.proofs.target.command_to.Goals as goal

pub returns-then-lun-eq0-clause-step : goal.returns-then-lun-eq0-clause-step
returns-then-lun-eq0-clause-step g c =
    let lent = c.as_mut_slice in
    put_back (λ (us vs : List UnitView). Commands us c.args.lun c.args.nexus c.args.cdb.now c.args.bytes.now (vs, c.command_to_changer.result)) c.args.units.now.items lent.result.now c.command_to_changer.new.units c.args.units.now.len
    lent.ensures.value lent.ensures.len c.command_to_changer.auto.units
    (subst (λ (lun : ℕ). Commands (units_of lent.result.now) lun c.args.nexus c.args.cdb.now c.args.bytes.now (units_of c.command_to_changer.new.units, c.command_to_changer.result)) (sym c.if-lun-eq0.true) c.command_to_changer.ensures.step)

pub returns-then-lun-eq0-clause-busy : goal.returns-then-lun-eq0-clause-busy
returns-then-lun-eq0-clause-busy g c =
    subst (λ (lun : ℕ). CommandIsBusyOnlyFor c.args.units.now.items lun c.args.nexus c.args.cdb.now c.args.bytes.now c.command_to_changer.result) (sym c.if-lun-eq0.true)
    (subst (λ (xs : List UnitWithRoom). CommandIsBusyOnlyFor xs 0 c.args.nexus c.args.cdb.now c.args.bytes.now c.command_to_changer.result) c.as_mut_slice.ensures.value c.command_to_changer.ensures.busy)

pub returns-then-lun-len-clause-step : goal.returns-then-lun-len-clause-step
returns-then-lun-len-clause-step g c =
    let lent = c.as_mut_slice-then-lun-len in
    put_back (λ (us vs : List UnitView). Commands us c.args.lun c.args.nexus c.args.cdb.now c.args.bytes.now (vs, c.command_at.result)) c.args.units.now.items lent.result.now c.command_at.new.units c.args.units.now.len
    lent.ensures.value lent.ensures.len c.command_at.auto.units c.command_at.ensures.step

pub returns-then-lun-len-clause-busy : goal.returns-then-lun-len-clause-busy
returns-then-lun-len-clause-busy g c =
    subst (λ (xs : List UnitWithRoom). CommandIsBusyOnlyFor xs c.args.lun c.args.nexus c.args.cdb.now c.args.bytes.now c.command_at.result) c.as_mut_slice-then-lun-len.ensures.value c.command_at.ensures.busy

pub returns-else-lun-len-clause-step : goal.returns-else-lun-len-clause-step
returns-else-lun-len-clause-step g c =
    subst (λ (u : Option UnitView). CommandsAt (units_of c.args.units.now.items) c.args.lun u c.args.nexus c.args.cdb.now c.args.bytes.now (units_of c.args.units.now.items, c.absent.result))
    (sym (none_there c.args.units.now.items c.args.lun c.len.result (c.len.ensures ∙ c.args.units.now.ok.0) c.if-lun-len.false)) (refl, c.absent.ensures)

pub returns-else-lun-len-clause-busy : goal.returns-else-lun-len-clause-busy
returns-else-lun-len-clause-busy g c =
    subst (λ (u : Option UnitWithRoom). BusyOnlyAt c.args.units.now.items c.args.lun u c.args.nexus c.args.cdb.now c.args.bytes.now c.absent.result)
    (sym (none_at c.args.units.now.items c.args.lun c.len.result (c.len.ensures ∙ c.args.units.now.ok.0) c.if-lun-len.false)) (absent_busy c.args.cdb.now c.absent.result c.absent.ensures)
