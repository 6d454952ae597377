-- A run in two parts, and the unit that stands at a place after a run.
use Rattle.std.proofs.Common.{◌≡◌, ℕ, zero, suc, List, [], ◌∷◌, ◌++◌, Some, refl, sym, ap, ◌∙◌, length}
use Rattle.std.proofs.lemmas.List.Sums.{fold-append}
use Rattle.std.specs.Prelude.{slice_get, slice_set}
use Rattle.scsi_cdb.specs.declared.profile.CommandSet.{CommandSet}
use Rattle.pr_core.specs.State.{State}
use Rattle.device_server.specs.View.{commands_of}
use Rattle.judgement.specs.declared.reply.Reply.{Reply}
use Rattle.judgement.specs.History.{after_history}
use Rattle.logical_unit.specs.UnitView.{UnitView}
use Rattle.target_core.specs.declared.event.Event.{Event}
use Rattle.target_core.specs.Run.{Runs}
use Rattle.target_core.specs.Laws.{accepted_at, accepted_in}
use Rattle.target_core.proofs.History.{Grows, step_grows}

-- the units between the first events of a run and the rest
pub record Parts (us : List UnitView) (es fs : List Event) (rs qs : List Reply) (vs : List UnitView) : Type 0 where
  pub mid : List UnitView
  pub first : Runs us es rs mid
  pub rest : Runs mid fs qs vs

one_less : (a b : ℕ) → suc a ≡ suc b → a ≡ b
one_less a b e = cc

pub parts : (us vs : List UnitView) (es fs : List Event) (rs qs : List Reply) → length rs ≡ length es → Runs us (es ++ fs) (rs ++ qs) vs → Parts us es fs rs qs vs
parts us vs [] fs [] qs same run = record { mid = us; first = refl; rest = run }
parts us vs (e ∷ es) fs (r ∷ rs) qs same run =
    let p = parts run.0 vs es fs rs qs (one_less (length rs) (length es) same) run.2 in
    record { mid = p.mid; first = (run.0, run.1, p.first); rest = p.rest }
parts us vs [] fs (r ∷ rs) qs same run = absurd cc
parts us vs (e ∷ es) fs [] qs same run = absurd cc

-- a unit stays at its place along a run, with its commands, and what its history leaves
pub run_grows : (us vs : List UnitView) (es : List Event) (rs : List Reply) (lun : ℕ) (u : UnitView) → Runs us es rs vs → slice_get us lun ≡ Some u → Grows u vs lun (accepted_in (commands_of u.device) lun es rs)
run_grows us vs [] [] lun u run here = record { unit = u; place = ap (λ (xs : List UnitView). slice_get xs lun) run ∙ here; commands = refl; history = refl }
run_grows us vs (e ∷ es) (r ∷ rs) lun u run here =
    let g = step_grows us run.0 e r lun u run.1 here in
    let m = g.unit in
    let k = run_grows run.0 vs es rs lun m run.2 g.place in
    record {
      unit = k.unit;
      place = k.place;
      commands = k.commands ∙ g.commands;
      history =
          k.history
          ∙ ap (λ (commands : CommandSet). after_history m.state.reservations (accepted_in commands lun es rs)) g.commands
          ∙ ap (λ (w : State). after_history w (accepted_in (commands_of u.device) lun es rs)) g.history
          ∙ sym (fold-append _ u.state.reservations (accepted_at (commands_of u.device) lun e r) (accepted_in (commands_of u.device) lun es rs));
    }
run_grows us vs [] (r ∷ rs) lun u run here = absurd run
run_grows us vs (e ∷ es) [] lun u run here = absurd run

-- a unit set where it stands
pub set-same : (xs : List UnitView) (i : ℕ) (x : UnitView) → slice_get xs i ≡ Some x → slice_set xs i x ≡ xs
set-same [] i x h = refl
set-same (z ∷ xs) zero x h = cc
set-same (z ∷ xs) (suc i) x h = ap (λ (ys : List UnitView). z ∷ ys) (set-same xs i x h)
