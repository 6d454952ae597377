use Rattle.std.proofs.Common.{◌≡◌, ℕ, suc, List, [], ◌∷◌, Option, Some, sym, subst, refl}
use Rattle.std.specs.Prelude.{slice_get, slice_set}
use Rattle.std.specs.Global.{Vec}
use Rattle.arrayvec.specs.ArrayVec.{ArrayVec}
use Rattle.scsi_nexus.specs.declared.nexus.Nexus.{Nexus}
use Rattle.device_server.specs.View.{drives_of}
use Rattle.judgement.specs.declared.reply.Reply.{Reply}
use Rattle.logical_unit.specs.Move.{TwoDrives, MovesOne, MovesTwo}
use Rattle.logical_unit.specs.Route.{named}
use Rattle.logical_unit.specs.Step.{Executes, IsLost, IsReset}
use Rattle.logical_unit.specs.UnitView.{UnitView}
use Rattle.target_core.specs.declared.event.Event.{Event}
use Rattle.target_core.specs.declared.event.Event.TheVariants.{Command, Loss, Reset}
use Rattle.target_core.specs.Run.{CommandsAt, CommandsNaming, LosesAt, MovesBetween, MovesWith, ResetsAt, Runs, Steps}
use Rattle.lun_router.proofs.laws.calls_are_steps.Goals as goal

-- a step is a run of one event
runs_one : (us vs : List UnitView) (e : Event) (r : Reply) → Steps us e (vs, r) → Runs us (e ∷ []) (r ∷ []) vs
runs_one us vs e r step = (vs, step, refl)

at_drive : (us : List UnitView) (k : ℕ) (o : Option UnitView) (u v : UnitView) (n : Nexus) (cdb bytes : List ℕ) (r : Reply)
    → o ≡ Some u → Executes u n cdb bytes (v, r) → CommandsAt us (suc k) o n cdb bytes (slice_set us (suc k) v, r)
at_drive us k o u v n cdb bytes r there step =
    subst (λ (o : Option UnitView). CommandsAt us (suc k) o n cdb bytes (slice_set us (suc k) v, r)) (sym there)
    (record { unit = v; step = step; units = refl })

at_changer : (c v : UnitView) (ds : List UnitView) (names : List ℕ) (n : Nexus) (cdb bytes : List ℕ) (r : Reply)
    → names ≡ [] → Executes c n cdb bytes (v, r) → CommandsNaming (c ∷ ds) c names n cdb bytes (v ∷ ds, r)
at_changer c v ds names n cdb bytes r none step =
    subst (λ (l : List ℕ). CommandsNaming (c ∷ ds) c l n cdb bytes (v ∷ ds, r)) (sym none)
    (record { unit = v; step = step; units = refl })

with_one : (c v d e : UnitView) (ds : List UnitView) (k : ℕ) (names : List ℕ) (n : Nexus) (cdb bytes : List ℕ) (r : Reply)
    → names ≡ suc k ∷ [] → slice_get ds k ≡ Some d → MovesOne c d n cdb bytes ((v, r), e)
    → CommandsNaming (c ∷ ds) c names n cdb bytes (v ∷ slice_set ds k e, r)
with_one c v d e ds k names n cdb bytes r one there step =
    subst (λ (l : List ℕ). CommandsNaming (c ∷ ds) c l n cdb bytes (v ∷ slice_set ds k e, r)) (sym one)
    (subst (λ (o : Option UnitView). MovesWith (c ∷ ds) c (suc k) o n cdb bytes (v ∷ slice_set ds k e, r)) (sym there)
    (record { changer = v; other = e; step = step; units = refl }))

with_two : (c v : UnitView) (ds : List UnitView) (low high : ℕ) (was is : TwoDrives) (names : List ℕ) (n : Nexus) (cdb bytes : List ℕ) (r : Reply)
    → names ≡ suc low ∷ suc high ∷ [] → slice_get ds low ≡ Some was.low → slice_get ds high ≡ Some was.high → MovesTwo c was n cdb bytes ((v, r), is)
    → CommandsNaming (c ∷ ds) c names n cdb bytes (v ∷ slice_set (slice_set ds low is.low) high is.high, r)
with_two c v ds low high was is names n cdb bytes r two lower upper step =
    let new : List UnitView × Reply = (v ∷ slice_set (slice_set ds low is.low) high is.high, r) in
    subst (λ (l : List ℕ). CommandsNaming (c ∷ ds) c l n cdb bytes new) (sym two)
    (subst (λ (o : Option UnitView). MovesBetween (c ∷ ds) c (suc low) (suc high) o (slice_get ds high) n cdb bytes new) (sym lower)
    (subst (λ (o : Option UnitView). MovesBetween (c ∷ ds) c (suc low) (suc high) (Some was.low) o n cdb bytes new) (sym upper)
    (record { changer = v; drives = is; step = step; units = refl })))

lost : (us : List UnitView) (lun : ℕ) (o : Option UnitView) (u v : UnitView) (n : Nexus) (r : Reply)
    → o ≡ Some u → IsLost u n (v, r) → LosesAt us lun o n (slice_set us lun v, r)
lost us lun o u v n r there step =
    subst (λ (o : Option UnitView). LosesAt us lun o n (slice_set us lun v, r)) (sym there) (record { unit = v; step = step; units = refl })

was_reset : (us : List UnitView) (lun : ℕ) (o : Option UnitView) (u v : UnitView) (r : Reply)
    → o ≡ Some u → IsReset u (v, r) → ResetsAt us lun o (slice_set us lun v, r)
was_reset us lun o u v r there step =
    subst (λ (o : Option UnitView). ResetsAt us lun o (slice_set us lun v, r)) (sym there) (record { unit = v; step = step; units = refl })

pub returns : goal.returns
returns c = record {
  at_drive = λ us k u v n cdb bytes r there step. runs_one us _ (Command n (suc k) cdb bytes) r (at_drive us k _ u v n cdb.items bytes.items r there step);
  at_changer = λ c v ds n cdb bytes r none step. runs_one (c ∷ ds) _ (Command n 0 cdb bytes) r (at_changer c v ds _ n cdb.items bytes.items r none step);
  with_one = λ c v d e ds k n cdb bytes r one there step. runs_one (c ∷ ds) _ (Command n 0 cdb bytes) r (with_one c v d e ds k _ n cdb.items bytes.items r one there step);
  with_two = λ c v ds low high was is n cdb bytes r two lower upper step.
      runs_one (c ∷ ds) _ (Command n 0 cdb bytes) r (with_two c v ds low high was is _ n cdb.items bytes.items r two lower upper step);
  lost = λ us lun u v n r there step. runs_one us _ (Loss n lun) r (lost us lun _ u v n r there step);
  was_reset = λ us lun u v r there step. runs_one us _ (Reset lun) r (was_reset us lun _ u v r there step);
}
