-- Runs that must be answered BUSY, and losses and resets.
use Rattle.std.proofs.Common.{◌≡◌, ℕ, ◌<◌, ◌^◌, true, List, [], ◌∷◌, Option, Some, None, inl, inr, refl, ap, ◌∙◌, subst, arith}
use Rattle.std.specs.Prelude.{◌⊎◌, map}
use Rattle.tape_medium.specs.declared.volume.VolumeTag.{VolumeTag}
use Rattle.scsi_cdb.specs.Commands as commands
use Rattle.scsi_nexus.specs.declared.nexus.Nexus.{Nexus}
use Rattle.unit_attention.specs.declared.kind.Kind.TheVariants.{NexusLoss, BusDeviceReset}
use Rattle.judgement.specs.declared.reply.Reply.{Reply}
use Rattle.judgement.specs.UnitState.{has_room}
use Rattle.judgement.specs.Replies.{busy}
use Rattle.logical_unit.specs.Step.{HasNumber, Executes, IsLost, IsReset, loses, resets, event_reply, number_or_0}
use Rattle.logical_unit.specs.UnitView.{UnitView}
use Rattle.target_laws.proofs.Row.{step}
use Rattle.target_laws.proofs.Sending.{busy_run}
use Rattle.target_core.specs.declared.event.Event.{Event}
use Rattle.target_core.specs.declared.event.Event.TheVariants as event
use Rattle.target_core.specs.Run.{AtUnit, Commands, Steps, Runs}
use Rattle.device_server.specs.View.{profile_of}
use Rattle.target_laws.specs.Rows.{a, Sends, test_unit_ready, HasRun, attention_29, changer, drive, units, last_number_used, with_slots, IsBusyToA, BusyRuns, good_with, not_supported, met_a, LossesAndResets}

never : (u : UnitView) → (has_room u.state a ≡ true → HasNumber u → ⊥) → IsBusyToA u
never u closed (event.Command n lun cdb bytes ∷ []) (r ∷ []) vs h run =
    let us = changer ∷ u ∷ [] in
    let at : AtUnit us 1 (Executes u n cdb.items bytes.items) (run.0, r) = subst (λ (k : ℕ). Commands us k n cdb.items bytes.items (run.0, r)) h.0.1 run.1 in
    elim at.step [
      | inl e ↦ (ap (λ (x : UnitView × Reply). x.1 ∷ []) e, run.2 ∙ at.units ∙ ap (λ (x : UnitView × Reply). changer ∷ x.0 ∷ []) e)
      | inr e ↦ absurd (closed (subst (λ (m : Nexus). has_room u.state m ≡ true) h.0.0 e.0) e.1)
    ]
never u closed [] rs vs h run = absurd h
never u closed (event.Loss n lun ∷ es) rs vs h run = absurd h.0
never u closed (event.Reset lun ∷ es) rs vs h run = absurd h.0
never u closed (event.Command n lun cdb bytes ∷ []) [] vs h run = absurd run
never u closed (event.Command n lun cdb bytes ∷ []) (r ∷ q ∷ rs) vs h run = absurd run.2
never u closed (event.Command n lun cdb bytes ∷ e ∷ es) rs vs h run = absurd h.1

pub busy_runs : BusyRuns
busy_runs = record {
  no_number = never last_number_used (λ room number. let no : 2 ^ 64 < 2 ^ 64 = number in absurd (omega (arith, no)));
  has_no_number = λ heap. busy_run heap last_number_used;
  no_slot = never (with_slots 128) (λ room number. absurd cc);
  has_no_slot = λ heap. busy_run heap (with_slots 128);
  last_slot = refl;
  has_slot = refl;
}

lost_row : (rs : List Reply) (vs : List UnitView) → Runs (changer ∷ met_a ∷ []) (event.Loss a 1 ∷ []) rs vs
    → (rs ≡ busy ∷ []) ⊎ ((rs ≡ good_with 2 ∷ []) × (map (λ (u : UnitView). u.state.slots) vs ≡ [] ∷ ((a, NexusLoss ∷ []) ∷ []) ∷ []))
lost_row (r ∷ []) vs run =
    let at : AtUnit (changer ∷ met_a ∷ []) 1 (IsLost met_a a) (run.0, r) = run.1 in
    elim at.step [
      | inl b ↦ inl (ap (λ (x : UnitView × Reply). x.1 ∷ []) b.0)
      | inr l ↦ inr (
        ap (λ (x : Reply). x ∷ []) (l.2 ∙ ap (λ (x : UnitView × Option ℕ). event_reply (number_or_0 x.1)) l.1.1),
        ap (λ (us : List UnitView). map (λ (u : UnitView). u.state.slots) us) (run.2 ∙ at.units ∙ ap (λ (x : UnitView × Option ℕ). changer ∷ x.0 ∷ []) l.1.1),
      )
    ]
lost_row [] vs run = absurd run
lost_row (r ∷ q ∷ rs) vs run = absurd run.2

reset_row : (rs : List Reply) (vs : List UnitView) → Runs (changer ∷ met_a ∷ []) (event.Reset 1 ∷ []) rs vs
    → (rs ≡ busy ∷ []) ⊎ ((rs ≡ good_with 2 ∷ []) × (map (λ (u : UnitView). u.state.slots) vs ≡ [] ∷ ((a, BusDeviceReset ∷ []) ∷ []) ∷ []))
reset_row (r ∷ []) vs run =
    let at : AtUnit (changer ∷ met_a ∷ []) 1 (IsReset met_a) (run.0, r) = run.1 in
    elim at.step [
      | inl b ↦ inl (ap (λ (x : UnitView × Reply). x.1 ∷ []) b)
      | inr l ↦ inr (
        ap (λ (x : Reply). x ∷ []) (l.2 ∙ ap (λ (x : UnitView × ℕ). event_reply x.1) l.1.1),
        ap (λ (us : List UnitView). map (λ (u : UnitView). u.state.slots) us) (run.2 ∙ at.units ∙ ap (λ (x : UnitView × ℕ). changer ∷ x.0 ∷ []) l.1.1),
      )
    ]
reset_row [] vs run = absurd run
reset_row (r ∷ q ∷ rs) vs run = absurd run.2

told_loss : (e : Event) → Sends e (a, test_unit_ready, []) → HasRun (changer ∷ met_a ∷ []) (event.Loss a 1 ∷ e ∷ []) (good_with 2 ∷ attention_29 0x07 3 ∷ [])
unfolding commands.command_of profile_of
told_loss e sends =
    let u = loses met_a a in
    record {
      units = _;
      run = (changer ∷ u ∷ [], record { unit = u; step = inr (Some 2, (omega arith, refl), refl); units = refl }, (_, step u e (a, test_unit_ready, []) sends refl refl, refl));
    }

told_reset : (e : Event) → Sends e (a, test_unit_ready, []) → HasRun (changer ∷ met_a ∷ []) (event.Reset 1 ∷ e ∷ []) (good_with 2 ∷ attention_29 0x03 3 ∷ [])
unfolding commands.command_of profile_of
told_reset e sends =
    let u = resets met_a in
    record {
      units = _;
      run = (changer ∷ u ∷ [], record { unit = u; step = inr (2, (omega arith, refl), refl); units = refl }, (_, step u e (a, test_unit_ready, []) sends refl refl, refl));
    }

absent_row : (tag : VolumeTag) (rs : List Reply) (vs : List UnitView) → Runs (units tag) (event.Loss a 2 ∷ event.Reset 255 ∷ []) rs vs
    → (rs ≡ not_supported ∷ not_supported ∷ []) × (vs ≡ units tag)
absent_row tag (r ∷ q ∷ []) vs run =
    let rest = run.2 in
    let first : (run.0, r) ≡ (units tag, not_supported) = run.1 in
    let same : run.0 ≡ units tag = ap (λ (x : List UnitView × Reply). x.0) first in
    let second : (rest.0, q) ≡ (units tag, not_supported) = subst (λ (us : List UnitView). Steps us (event.Reset 255) (rest.0, q)) same rest.1 in (
      ap (λ (x : List UnitView × Reply). x.1 ∷ q ∷ []) first ∙ ap (λ (x : List UnitView × Reply). not_supported ∷ x.1 ∷ []) second,
      rest.2 ∙ ap (λ (x : List UnitView × Reply). x.0) second,
    )
absent_row tag [] vs run = absurd run
absent_row tag (r ∷ []) vs run = absurd run.2
absent_row tag (r ∷ q ∷ s ∷ rs) vs run = absurd run.2.2

pub losses_and_resets : (tag : VolumeTag) → LossesAndResets tag
losses_and_resets tag = record {
  unknown = (units tag, record { unit = drive tag; step = inr (None, refl, refl); units = refl }, refl);
  lost = lost_row;
  has_lost = record { units = _; run = (_, record { unit = _; step = inr (Some 2, (omega arith, refl), refl); units = refl }, refl) };
  was_reset = reset_row;
  has_reset = record { units = _; run = (_, record { unit = _; step = inr (2, (omega arith, refl), refl); units = refl }, refl) };
  told_loss = told_loss;
  told_reset = told_reset;
  absent = absent_row tag;
  has_absent = (units tag, refl, (units tag, refl, refl));
}
