-- A target stays one along its steps, and along a run.
use Rattle.std.proofs.Common.{◌≡◌, List, [], ◌∷◌, None, refl, ap, ◌∙◌}
use Rattle.std.specs.Prelude.{slice_get}
use Rattle.judgement.specs.declared.reply.Reply.{Reply}
use Rattle.logical_unit.specs.UnitView.{UnitView}
use Rattle.target_core.specs.declared.event.Event.{Event}
use Rattle.target_core.specs.declared.event.Event.TheVariants as event
use Rattle.target_core.specs.Faults.{fault_of}
use Rattle.target_core.specs.Run.{Steps, Runs}
use Rattle.target_core.proofs.InOrder.{commands_order, loses_order, resets_order}

pub step_order : (us ms : List UnitView) (e : Event) (r : Reply) → fault_of us ≡ None → Steps us e (ms, r) → fault_of ms ≡ None
step_order us ms (event.Command n at cdb bytes) r h step = commands_order us ms at n cdb.items bytes.items r (slice_get us at) refl step h
step_order us ms (event.Loss n at) r h step = loses_order us ms at n r (slice_get us at) refl step h
step_order us ms (event.Reset at) r h step = resets_order us ms at r (slice_get us at) refl step h

pub run_order : (us vs : List UnitView) (es : List Event) (rs : List Reply) → fault_of us ≡ None → Runs us es rs vs → fault_of vs ≡ None
run_order us vs [] [] h run = ap fault_of run ∙ h
run_order us vs (e ∷ es) (r ∷ rs) h run = run_order run.0 vs es rs (step_order us run.0 e r h run.1) run.2
run_order us vs [] (r ∷ rs) h run = absurd run
run_order us vs (e ∷ es) [] h run = absurd run
