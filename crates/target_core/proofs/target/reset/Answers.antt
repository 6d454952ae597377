use Rattle.std.proofs.Common.{List, Option, sym, ap, ◌∙◌, subst}
use Rattle.std.specs.Prelude.{slice_get}
use Rattle.judgement.specs.declared.reply.Reply.{Reply}
use Rattle.logical_unit.specs.UnitView.{UnitView, UnitWithRoom, units_of}
use Rattle.target_core.specs.Busy.{IsBusyOnlyForRecordAt}
use Rattle.target_core.specs.Run.{ResetsAt}
use Rattle.target_core.proofs.Places.{put_back, none_at, none_there}
use Rattle.target_core.proofs.WhyBusy.{unsupported_busy}
use Rattle.target_core.proofs.target.reset.Goals as goal

pub returns-then-lun-len-clause-step : goal.returns-then-lun-len-clause-step
returns-then-lun-len-clause-step g c =
    put_back (λ (us vs : List UnitView). ResetsAt us c.args.lun (slice_get us c.args.lun) (vs, c.reset_at.result)) c.args.units.now.items c.as_mut_slice.result.now c.reset_at.new.units c.args.units.now.len
    c.as_mut_slice.ensures.value c.as_mut_slice.ensures.len c.reset_at.auto.units c.reset_at.ensures.step

pub returns-then-lun-len-clause-busy : goal.returns-then-lun-len-clause-busy
returns-then-lun-len-clause-busy g c =
    subst (λ (xs : List UnitWithRoom). IsBusyOnlyForRecordAt (slice_get xs c.args.lun) c.reset_at.result) c.as_mut_slice.ensures.value c.reset_at.ensures.busy

pub returns-else-lun-len-clause-step : goal.returns-else-lun-len-clause-step
returns-else-lun-len-clause-step g c =
    let us = units_of c.args.units.now.items in
    subst (λ (u : Option UnitView). ResetsAt us c.args.lun u (us, c.check.result)) (sym (none_there c.args.units.now.items c.args.lun c.len.result (c.len.ensures ∙ c.args.units.now.ok.0) c.if-lun-len.false))
    (ap (λ (r : Reply). (us, r)) c.check.ensures)

pub returns-else-lun-len-clause-busy : goal.returns-else-lun-len-clause-busy
returns-else-lun-len-clause-busy g c =
    subst (λ (u : Option UnitWithRoom). IsBusyOnlyForRecordAt u c.check.result) (sym (none_at c.args.units.now.items c.args.lun c.len.result (c.len.ensures ∙ c.args.units.now.ok.0) c.if-lun-len.false))
    (unsupported_busy c.check.result c.check.ensures)
