use Rattle.std.proofs.Common.{◌≡◌, ◌<◌, List, [], ◌∷◌, ◌++◌, subst, arith, vec_len, vec_capacity}
use Rattle.std.proofs.lemmas.Grind.{common_steps}
use Rattle.std.proofs.lemmas.List.{take_all}
use Rattle.logical_unit.specs.UnitView.{units_of}
use Rattle.target_core.specs.declared.event.Event.{Event}
use Rattle.target_core.specs.Run.{Runs}
use Rattle.target_core.proofs.Runs.{Told-step}
use Rattle.target_core.proofs.target.TargetCore.run.Goals as goal

pub loop-event-preserved : goal.loop-event-preserved
loop-event-preserved g c =
    let room : vec_len c.loop-event.replies < vec_capacity c.loop-event.replies = omega (arith, c.loop-event.invariant.room) in
    let items : c.push.new.self.items ≡ c.loop-event.replies.items ++ c.step-reply.result ∷ [] = grind (arith, common_steps) in
    record {
      told = Told-step c.event-item.result _ _ _ c.loop-event.invariant.told c.loop-event-test.true c.event-item.is items c.step-reply.ensures.step;
      room = grind (arith, common_steps);
    }

pub returns-clause-ok : goal.returns-clause-ok
returns-clause-ok g c =
    let told = c.loop-event.invariant.told in
    (told.replies, told.added, subst (λ (es : List Event). Runs (units_of c.args.self.now) es told.replies (units_of c.loop-event.self)) (take_all c.loop-event.event-index c.args.events.now c.loop-event-test.false) told.run)
