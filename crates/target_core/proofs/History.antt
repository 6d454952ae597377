-- The accepted history of a unit along a run.
use Rattle.std.proofs.Common.{◌≡◌, ◌≢◌, ℕ, zero, suc, Bool, true, false, cond, ◌==◌, List, [], ◌∷◌, Option, Some, None, inl, inr, refl, sym, ap, ◌∙◌, subst, eq-eqb, arith}
use Rattle.std.proofs.lemmas.List.Sums.{fold-append}
use Rattle.std.specs.Prelude.{slice_get, slice_set, if◌then◌else◌}
use Rattle.std.proofs.lemmas.Map.Views.{exact_unsigned_eq}
use Rattle.scsi_cdb.specs.declared.profile.CommandSet.{CommandSet}
use Rattle.scsi_nexus.specs.declared.nexus.Nexus.{Nexus}
use Rattle.unit_attention.specs.Queues.{has_slot}
use Rattle.pr_core.specs.State.{State}
use Rattle.device_server.specs.Marks.{KeepsMarks}
use Rattle.device_server.specs.View.{DeviceView, commands_of, drives_of, reset_of}
use Rattle.device_server.proofs.MarkLemmas.{resets_keep_marks}
use Rattle.judgement.specs.declared.reply.Reply.{Reply}
use Rattle.judgement.specs.History.{Accepted, accepted_as, accepted_by, after_history}
use Rattle.logical_unit.specs.Move.{TwoDrives, IsSameUnit}
use Rattle.logical_unit.specs.Route.{named}
use Rattle.logical_unit.specs.UnitView.{UnitView}
use Rattle.logical_unit.proofs.NamedDrives.{has_errand, errand_asked}
use Rattle.logical_unit.proofs.SameUnits.{one_same, two_same}
use Rattle.logical_unit.proofs.History.{executes_keeps, executes_stays}
use Rattle.device_server.proofs.SameDevice.{same_commands, reset_same}
use Rattle.logical_unit.specs.Step.{Executes, LosesAs, IsLost, IsReset}
use Rattle.target_core.proofs.Places.{same_some}
use Rattle.target_core.specs.declared.event.Event.{Event}
use Rattle.target_core.specs.declared.event.Event.TheVariants as event
use Rattle.target_core.specs.Run.{AtUnit, MovesWith, MovesBetween, CommandsNaming, CommandsAt, LosesAt, ResetsAt, Steps, Runs}
use Rattle.target_core.specs.Laws.{accepted_at, accepted_in}
use Rattle.target_core.proofs.Ordered.{one_named, two_named}

pub get-set_same : (xs : List UnitView) (i : ℕ) (x y : UnitView) → slice_get xs i ≡ Some y → slice_get (slice_set xs i x) i ≡ Some x
get-set_same [] i x y h = cc
get-set_same (z ∷ xs) zero x y h = refl
get-set_same (z ∷ xs) (suc i) x y h = get-set_same xs i x y h

pub get-set_other : (xs : List UnitView) (i j : ℕ) (x : UnitView) → i ≢ j → slice_get (slice_set xs i x) j ≡ slice_get xs j
get-set_other [] i j x apart = refl
get-set_other (z ∷ xs) zero zero x apart = absurd (apart refl)
get-set_other (z ∷ xs) zero (suc j) x apart = refl
get-set_other (z ∷ xs) (suc i) zero x apart = refl
get-set_other (z ∷ xs) (suc i) (suc j) x apart = get-set_other xs i j x (λ e. apart (ap suc e))

-- the unit that stood at a place after an event, with the same commands, with what that adds to its history
pub record Grows (u : UnitView) (ms : List UnitView) (lun : ℕ) (added : List Accepted) : Type 0 where
  pub unit : UnitView
  pub place : slice_get ms lun ≡ Some unit
  pub commands : commands_of unit.device ≡ commands_of u.device
  pub history : unit.state.reservations ≡ after_history u.state.reservations added

-- what a command to the unit at `at` adds to the history of the unit at `lun`
abbrev pub added_at : ℕ → ℕ → List Accepted → List Accepted
added_at lun at added = if at == lun then added else []

none_some : (u : UnitView) → None ≡ Some u → ⊥
none_some u e = cc

-- a command to an absent unit leaves all units, and is none to a unit that is there
absent_grows : (us ms : List UnitView) (lun at : ℕ) (u : UnitView) (added : List Accepted) → slice_get us at ≡ None → slice_get us lun ≡ Some u → ms ≡ us → Grows u ms lun (added_at lun at added)
absent_grows us ms lun at u added there here same =
    elim (at == lun) as (λ b. (at == lun) ≡ b → Grows u ms lun (cond b added [])) [
      | true ↦ λ e. absurd (none_some u (sym there ∙ ap (slice_get us) (exact_unsigned_eq at lun e) ∙ here))
      | false ↦ λ e. record { unit = u; place = ap (λ (xs : List UnitView). slice_get xs lun) same ∙ here; commands = refl; history = refl }
    ] refl

-- a command to a unit changes that unit by its part of the history, and no other
unit_grows : (us ms : List UnitView) (lun at : ℕ) (u w : UnitView) (n : Nexus) (cdb bytes : List ℕ) (r : Reply) → slice_get us lun ≡ Some u → slice_get us at ≡ Some w → AtUnit us at (Executes w n cdb bytes) (ms, r)
    → Grows u ms lun (added_at lun at (accepted_by (commands_of u.device) n cdb bytes r.status))
unit_grows us ms lun at u w n cdb bytes r here there a =
    elim (at == lun) as (λ b. (at == lun) ≡ b → Grows u ms lun (cond b (accepted_by (commands_of u.device) n cdb bytes r.status) [])) [
      | true ↦ λ e.
          let same : at ≡ lun = exact_unsigned_eq at lun e in
          let is : u ≡ w = same_some u w (sym here ∙ ap (slice_get us) (sym same) ∙ there) in
          record {
            unit = a.unit;
            place = ap (λ (xs : List UnitView). slice_get xs lun) a.units ∙ ap (λ k. slice_get (slice_set us k a.unit) lun) same ∙ get-set_same us lun a.unit u here;
            commands = same_commands w.device a.unit.device (executes_stays w a.unit n cdb bytes r a.step).device ∙ ap (λ (x : UnitView). commands_of x.device) (sym is);
            history =
                executes_keeps w a.unit n cdb bytes r a.step ∙ ap (λ (x : UnitView). after_history x.state.reservations (accepted_by (commands_of x.device) n cdb bytes r.status)) (sym is);
          }
      | false ↦ λ e.
          let apart : at ≢ lun = λ same. let yes : (at == lun) ≡ true = eq-eqb at lun same in cc in
          record { unit = u; place = ap (λ (xs : List UnitView). slice_get xs lun) a.units ∙ get-set_other us at lun a.unit apart ∙ here; commands = refl; history = refl }
    ] refl

-- a change of one unit that leaves its registrations leaves those of every unit
changed_grows : (us ms : List UnitView) (lun at : ℕ) (u w x : UnitView) → slice_get us lun ≡ Some u → slice_get us at ≡ Some w → ms ≡ slice_set us at x → commands_of x.device ≡ commands_of w.device → x.state.reservations ≡ w.state.reservations → Grows u ms lun []
changed_grows us ms lun at u w x here there is commands state =
    elim (at == lun) as (λ b. (at == lun) ≡ b → Grows u ms lun []) [
      | true ↦ λ e.
          let same : at ≡ lun = exact_unsigned_eq at lun e in
          let one : u ≡ w = same_some u w (sym here ∙ ap (slice_get us) (sym same) ∙ there) in
          record {
            unit = x;
            place = ap (λ (xs : List UnitView). slice_get xs lun) is ∙ ap (λ k. slice_get (slice_set us k x) lun) same ∙ get-set_same us lun x u here;
            commands = commands ∙ ap (λ (y : UnitView). commands_of y.device) (sym one);
            history = state ∙ ap (λ (y : UnitView). y.state.reservations) (sym one);
          }
      | false ↦ λ e.
          let apart : at ≢ lun = λ same. let yes : (at == lun) ≡ true = eq-eqb at lun same in cc in
          record { unit = u; place = ap (λ (xs : List UnitView). slice_get xs lun) is ∙ get-set_other us at lun x apart ∙ here; commands = refl; history = refl }
    ] refl

-- a change of another unit beside it, which keeps its registrations
beside_grows : (us xs : List UnitView) (lun at : ℕ) (u d e : UnitView) (added : List Accepted) → slice_get xs at ≡ Some d → IsSameUnit d e → Grows u xs lun added → Grows u (slice_set xs at e) lun added
beside_grows us xs lun at u d e added there same g =
    elim (at == lun) as (λ b. (at == lun) ≡ b → Grows u (slice_set xs at e) lun added) [
      | true ↦ λ t.
          let place : at ≡ lun = exact_unsigned_eq at lun t in
          let one : g.unit ≡ d = same_some g.unit d (sym g.place ∙ ap (slice_get xs) (sym place) ∙ there) in
          record {
            unit = e;
            place = ap (λ k. slice_get (slice_set xs k e) lun) place ∙ get-set_same xs lun e g.unit g.place;
            commands = same_commands d.device e.device same.device ∙ ap (λ (x : UnitView). commands_of x.device) (sym one) ∙ g.commands;
            history = same.reservations ∙ ap (λ (x : UnitView). x.state.reservations) (sym one) ∙ g.history;
          }
      | false ↦ λ t.
          let apart : at ≢ lun = λ p. let yes : (at == lun) ≡ true = eq-eqb at lun p in cc in
          record { unit = g.unit; place = get-set_other xs at lun e apart ∙ g.place; commands = g.commands; history = g.history }
    ] refl

-- a MOVE MEDIUM or an EXCHANGE MEDIUM adds nothing to any history
pub adds_nothing : (device : DeviceView) (n : Nexus) (cdb bytes : List ℕ) (r : Reply) (l : ℕ) (more : List ℕ) → named (commands_of device) (drives_of device) cdb ≡ l ∷ more → accepted_by (commands_of device) n cdb bytes r.status ≡ []
adds_nothing device n cdb bytes r l more names = ap (accepted_as n r.status) (errand_asked device cdb bytes l more (has_errand device cdb l more names))

nothing_at : (us : List UnitView) (lun : ℕ) (u c : UnitView) (n : Nexus) (cdb bytes : List ℕ) (r : Reply) → slice_get us lun ≡ Some u → slice_get us 0 ≡ Some c → accepted_by (commands_of c.device) n cdb bytes r.status ≡ []
    → added_at lun 0 (accepted_by (commands_of u.device) n cdb bytes r.status) ≡ []
nothing_at us zero u c n cdb bytes r here there none = ap (λ (x : UnitView). accepted_by (commands_of x.device) n cdb bytes r.status) (same_some u c (sym here ∙ there)) ∙ none
nothing_at us (suc k) u c n cdb bytes r here there none = let no : (0 == suc k) ≡ false = grind arith in ap (λ b. cond b (accepted_by (commands_of u.device) n cdb bytes r.status) []) no

same_grows : (us ms : List UnitView) (lun at : ℕ) (u w x : UnitView) → slice_get us lun ≡ Some u → slice_get us at ≡ Some w → ms ≡ slice_set us at x → IsSameUnit w x → Grows u ms lun []
same_grows us ms lun at u w x here there is same = changed_grows us ms lun at u w x here there is (same_commands w.device x.device same.device) same.reservations

with_grows : (us ms : List UnitView) (lun l : ℕ) (u c : UnitView) (n : Nexus) (cdb bytes : List ℕ) (r : Reply) (d : Option UnitView) → slice_get us lun ≡ Some u → slice_get us 0 ≡ Some c → slice_get us l ≡ d → named (commands_of c.device) (drives_of c.device) cdb ≡ l ∷ []
    → MovesWith us c l d n cdb bytes (ms, r) → Grows u ms lun (added_at lun 0 (accepted_by (commands_of u.device) n cdb bytes r.status))
with_grows us ms lun l u c n cdb bytes r None here there drive names step = unit_grows us ms lun 0 u c n cdb bytes r here there step
with_grows us ms lun l u c n cdb bytes r (Some d) here there drive names a =
    let same = one_same c d a.changer a.other n cdb bytes r l [] names a.step in
    let within = one_named c.device cdb l names in
    let apart : 0 ≢ l = λ e. let low = within.0 in absurd (omega (arith, e, low)) in
    let first = same_grows us (slice_set us 0 a.changer) lun 0 u c a.changer here there refl same.0 in
    let second = beside_grows us (slice_set us 0 a.changer) lun l u d a.other [] (get-set_other us 0 l a.changer apart ∙ drive) same.1 first in
    subst (λ (xs : List UnitView). Grows u xs lun (added_at lun 0 (accepted_by (commands_of u.device) n cdb bytes r.status))) (sym a.units)
    (subst (λ (added : List Accepted). Grows u (slice_set (slice_set us 0 a.changer) l a.other) lun added) (sym (nothing_at us lun u c n cdb bytes r here there (adds_nothing c.device n cdb bytes r l [] names))) second)

between_grows : (us ms : List UnitView) (lun l m : ℕ) (more : List ℕ) (u c : UnitView) (n : Nexus) (cdb bytes : List ℕ) (r : Reply) (d e : Option UnitView) → slice_get us lun ≡ Some u → slice_get us 0 ≡ Some c → slice_get us l ≡ d → slice_get us m ≡ e
    → named (commands_of c.device) (drives_of c.device) cdb ≡ l ∷ m ∷ more → MovesBetween us c l m d e n cdb bytes (ms, r) → Grows u ms lun (added_at lun 0 (accepted_by (commands_of u.device) n cdb bytes r.status))
between_grows us ms lun l m more u c n cdb bytes r None e here there low high names step = unit_grows us ms lun 0 u c n cdb bytes r here there step
between_grows us ms lun l m more u c n cdb bytes r (Some d) None here there low high names step = unit_grows us ms lun 0 u c n cdb bytes r here there step
between_grows us ms lun l m more u c n cdb bytes r (Some d) (Some e) here there low high names a =
    let ds : TwoDrives = record { low = d; high = e } in
    let same = two_same c a.changer ds a.drives n cdb bytes r l (m ∷ more) names a.step in
    let within = two_named c.device cdb l m more names in
    let one : 0 ≢ l = λ p. let h = within.0 in absurd (omega (arith, p, h)) in
    let two : 0 ≢ m = λ p. let h = within.1 in absurd (omega (arith, p, h)) in
    let apart : l ≢ m = λ p. let h = within.1 in absurd (omega (arith, p, h)) in
    let xs = slice_set us 0 a.changer in
    let first = same_grows us xs lun 0 u c a.changer here there refl same.0 in
    let second = beside_grows us xs lun l u d a.drives.low [] (get-set_other us 0 l a.changer one ∙ low) same.1 first in
    let third = beside_grows us (slice_set xs l a.drives.low) lun m u e a.drives.high [] (get-set_other xs l m a.drives.low apart ∙ get-set_other us 0 m a.changer two ∙ high) same.2 second in
    subst (λ (ys : List UnitView). Grows u ys lun (added_at lun 0 (accepted_by (commands_of u.device) n cdb bytes r.status))) (sym a.units)
    (subst (λ (added : List Accepted). Grows u (slice_set (slice_set xs l a.drives.low) m a.drives.high) lun added) (sym (nothing_at us lun u c n cdb bytes r here there (adds_nothing c.device n cdb bytes r l (m ∷ more) names))) third)

naming_grows : (us ms : List UnitView) (lun : ℕ) (names : List ℕ) (u c : UnitView) (n : Nexus) (cdb bytes : List ℕ) (r : Reply) → slice_get us lun ≡ Some u → slice_get us 0 ≡ Some c → named (commands_of c.device) (drives_of c.device) cdb ≡ names
    → CommandsNaming us c names n cdb bytes (ms, r) → Grows u ms lun (added_at lun 0 (accepted_by (commands_of u.device) n cdb bytes r.status))
naming_grows us ms lun [] u c n cdb bytes r here there is step = unit_grows us ms lun 0 u c n cdb bytes r here there step
naming_grows us ms lun (l ∷ []) u c n cdb bytes r here there is step = with_grows us ms lun l u c n cdb bytes r (slice_get us l) here there refl is step
naming_grows us ms lun (l ∷ m ∷ more) u c n cdb bytes r here there is step = between_grows us ms lun l m more u c n cdb bytes r (slice_get us l) (slice_get us m) here there refl refl is step

commands_grow : (us ms : List UnitView) (lun at : ℕ) (u : UnitView) (n : Nexus) (cdb bytes : List ℕ) (r : Reply) (o : Option UnitView) → slice_get us at ≡ o → slice_get us lun ≡ Some u → CommandsAt us at o n cdb bytes (ms, r)
    → Grows u ms lun (added_at lun at (accepted_by (commands_of u.device) n cdb bytes r.status))
commands_grow us ms lun at u n cdb bytes r None there here step = absent_grows us ms lun at u (accepted_by (commands_of u.device) n cdb bytes r.status) there here step.0
commands_grow us ms lun zero u n cdb bytes r (Some c) there here step = naming_grows us ms lun (named (commands_of c.device) (drives_of c.device) cdb) u c n cdb bytes r here there refl step
commands_grow us ms lun (suc k) u n cdb bytes r (Some w) there here step = unit_grows us ms lun (suc k) u w n cdb bytes r here there step

-- a loss and a reset leave a unit's registrations
loses_keeps : (u v : UnitView) (n : Nexus) (number : Option ℕ) (known : Bool) → LosesAs known u n (v, number) → v.state.reservations ≡ u.state.reservations
loses_keeps u v n number false is = ap (λ (x : UnitView × Option ℕ). x.0.state.reservations) is
loses_keeps u v n number true is = ap (λ (x : UnitView × Option ℕ). x.0.state.reservations) is.1

loss_keeps : (u v : UnitView) (n : Nexus) (r : Reply) → IsLost u n (v, r) → v.state.reservations ≡ u.state.reservations
loss_keeps u v n r (inl busy) = ap (λ (x : UnitView × Reply). x.0.state.reservations) busy.0
loss_keeps u v n r (inr lost) = loses_keeps u v n lost.0 (has_slot u.state.slots n) lost.1

reset_keeps : (u v : UnitView) (r : Reply) → IsReset u (v, r) → v.state.reservations ≡ u.state.reservations
reset_keeps u v r (inl busy) = ap (λ (x : UnitView × Reply). x.0.state.reservations) busy
reset_keeps u v r (inr was) = ap (λ (x : UnitView × ℕ). x.0.state.reservations) was.1.1

-- and its commands
lost_commands : (u v : UnitView) (n : Nexus) (number : Option ℕ) (known : Bool) → LosesAs known u n (v, number) → commands_of v.device ≡ commands_of u.device
lost_commands u v n number false is = ap (λ (x : UnitView × Option ℕ). commands_of x.0.device) is
lost_commands u v n number true is = ap (λ (x : UnitView × Option ℕ). commands_of x.0.device) is.1

pub loss_commands : (u v : UnitView) (n : Nexus) (r : Reply) → IsLost u n (v, r) → commands_of v.device ≡ commands_of u.device
loss_commands u v n r (inl busy) = ap (λ (x : UnitView × Reply). commands_of x.0.device) busy.0
loss_commands u v n r (inr lost) = lost_commands u v n lost.0 (has_slot u.state.slots n) lost.1

pub reset_commands : (u v : UnitView) (r : Reply) → IsReset u (v, r) → commands_of v.device ≡ commands_of u.device
reset_commands u v r (inl busy) = ap (λ (x : UnitView × Reply). commands_of x.0.device) busy
reset_commands u v r (inr was) = ap (λ (x : UnitView × ℕ). commands_of x.0.device) was.1.1 ∙ same_commands u.device (reset_of u.device) (reset_same u.device)

-- and its marks
lost_marks : (u v : UnitView) (n : Nexus) (number : Option ℕ) (known : Bool) → LosesAs known u n (v, number) → v.device ≡ u.device
lost_marks u v n number false is = ap (λ (x : UnitView × Option ℕ). x.0.device) is
lost_marks u v n number true is = ap (λ (x : UnitView × Option ℕ). x.0.device) is.1

same_marks : (a b : DeviceView) → b ≡ a → KeepsMarks a b
same_marks a b is = subst (λ (x : DeviceView). KeepsMarks a x) (sym is) (record { device = record { kind = refl; profile = refl; identity = refl; drives = refl }; marks = refl })

pub loss_marks : (u v : UnitView) (n : Nexus) (r : Reply) → IsLost u n (v, r) → KeepsMarks u.device v.device
loss_marks u v n r (inl busy) = same_marks u.device v.device (ap (λ (x : UnitView × Reply). x.0.device) busy.0)
loss_marks u v n r (inr lost) = same_marks u.device v.device (lost_marks u v n lost.0 (has_slot u.state.slots n) lost.1)

pub reset_marks : (u v : UnitView) (r : Reply) → IsReset u (v, r) → KeepsMarks u.device v.device
reset_marks u v r (inl busy) = same_marks u.device v.device (ap (λ (x : UnitView × Reply). x.0.device) busy)
reset_marks u v r (inr was) = subst (λ (x : UnitView × ℕ). KeepsMarks u.device x.0.device) (sym was.1.1) (resets_keep_marks u.device)

loss_grows : (us ms : List UnitView) (r : Reply) (lun at : ℕ) (u : UnitView) (n : Nexus) (o : Option UnitView) → slice_get us at ≡ o → slice_get us lun ≡ Some u → LosesAt us at o n (ms, r) → Grows u ms lun []
loss_grows us ms r lun at u n None there here is = record { unit = u; place = ap (λ (x : List UnitView × Reply). slice_get x.0 lun) is ∙ here; commands = refl; history = refl }
loss_grows us ms r lun at u n (Some w) there here a = changed_grows us ms lun at u w a.unit here there a.units (loss_commands w a.unit n r a.step) (loss_keeps w a.unit n r a.step)

reset_grows : (us ms : List UnitView) (r : Reply) (lun at : ℕ) (u : UnitView) (o : Option UnitView) → slice_get us at ≡ o → slice_get us lun ≡ Some u → ResetsAt us at o (ms, r) → Grows u ms lun []
reset_grows us ms r lun at u None there here is = record { unit = u; place = ap (λ (x : List UnitView × Reply). slice_get x.0 lun) is ∙ here; commands = refl; history = refl }
reset_grows us ms r lun at u (Some w) there here a = changed_grows us ms lun at u w a.unit here there a.units (reset_commands w a.unit r a.step) (reset_keeps w a.unit r a.step)

pub step_grows : (us ms : List UnitView) (e : Event) (r : Reply) (lun : ℕ) (u : UnitView) → Steps us e (ms, r) → slice_get us lun ≡ Some u → Grows u ms lun (accepted_at (commands_of u.device) lun e r)
step_grows us ms (event.Command n at cdb bytes) r lun u step here = commands_grow us ms lun at u n cdb.items bytes.items r (slice_get us at) refl here step
step_grows us ms (event.Loss n at) r lun u step here = loss_grows us ms r lun at u n (slice_get us at) refl here step
step_grows us ms (event.Reset at) r lun u step here = reset_grows us ms r lun at u (slice_get us at) refl here step

pub history_of_run : (us vs : List UnitView) (es : List Event) (rs : List Reply) (lun : ℕ) (u v : UnitView) → Runs us es rs vs → slice_get us lun ≡ Some u → slice_get vs lun ≡ Some v
    → v.state.reservations ≡ after_history u.state.reservations (accepted_in (commands_of u.device) lun es rs)
history_of_run us vs [] [] lun u v run before after = ap (λ (x : UnitView). x.state.reservations) (same_some v u (sym after ∙ ap (λ (xs : List UnitView). slice_get xs lun) run ∙ before))
history_of_run us vs (e ∷ es) (r ∷ rs) lun u v run before after =
    let grown = step_grows us run.0 e r lun u run.1 before in
    let m = grown.unit in
    history_of_run run.0 vs es rs lun m v run.2 grown.place after
    ∙ ap (λ (k : CommandSet). after_history m.state.reservations (accepted_in k lun es rs)) grown.commands
    ∙ ap (λ (w : State). after_history w (accepted_in (commands_of u.device) lun es rs)) grown.history
    ∙ sym (fold-append _ u.state.reservations (accepted_at (commands_of u.device) lun e r) (accepted_in (commands_of u.device) lun es rs))
history_of_run us vs [] (r ∷ rs) lun u v run before after = absurd run
history_of_run us vs (e ∷ es) [] lun u v run before after = absurd run
