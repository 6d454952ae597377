-- The run without the struck commands, built step by step.
use Rattle.std.proofs.Common.{◌≡◌, ◌≢◌, ℕ, zero, suc, Bool, true, false, cond, not, ◌==◌, ◌&&◌, List, [], ◌∷◌, Option, Some, None, Result, Ok, Err, inr, refl, sym, ap, ◌∙◌, subst}
use Rattle.std.specs.Prelude.{slice_get, slice_set, is_ok}
use Rattle.std.proofs.lemmas.Map.Views.{exact_unsigned_eq}
use Rattle.scsi_nexus.specs.declared.nexus.Nexus.{Nexus}
use Rattle.scsi_sense.specs.declared.condition.Condition.{Condition}
use Rattle.scsi_sense.specs.declared.status.Status.TheVariants.{Busy}
use Rattle.unit_attention.specs.Queues.{has_slot}
use Rattle.device_server.specs.View.{DeviceView, commands_of, drives_of}
use Rattle.judgement.proofs.Carried.{judged_free}
use Rattle.judgement.specs.declared.reply.Reply.{Reply}
use Rattle.judgement.specs.Commands.{decoded_command}
use Rattle.judgement.specs.UnitState.{has_room}
use Rattle.logical_unit.specs.Move.{TwoDrives, is_left, judged_at, errand_at, concluded, carried_one, carried_two, moved_one, moved_two, MovesOne, MovesTwo}
use Rattle.logical_unit.specs.Route.{named, records_of}
use Rattle.logical_unit.specs.Step.{Executes, IsLost, IsReset, HasNumber, HasNumbers, answered, contacted_present}
use Rattle.logical_unit.specs.UnitView.{UnitView}
use Rattle.logical_unit.proofs.History.{answers_no_busy}
use Rattle.target_core.specs.declared.event.Event.{Event}
use Rattle.target_core.specs.declared.event.Event.TheVariants as event
use Rattle.target_core.specs.Run.{AtUnit, AtDrive, AtDrives, MovesWith, MovesBetween, CommandsNaming, CommandsAt, LosesAt, ResetsAt, Steps}
use Rattle.target_core.proofs.History.{get-set_same, get-set_other}
use Rattle.protected_span.specs.Struck.{is_struck, struck, RunsThrough, InSpan, Serves}
use Rattle.protected_span.proofs.KeptByEachStep.{IsKeptAlong}
use Rattle.protected_span.proofs.Carry.{Same, With, BothDrives, one_alike, two_alike}
use Rattle.protected_span.proofs.Changer.{Goes, looks_at, no_drive, no_drives}
use Rattle.protected_span.proofs.Ended.{concluded_is, end_free, ended_is, ended_numbers}
use Rattle.protected_span.proofs.StruckRuns.{struck_event, kept_event}
use Rattle.protected_span.proofs.Places.{Lists, At, BothAt, at_place, takes_at}
use Rattle.protected_span.proofs.RoomOfStruckRuns.{room_too, number_too, numbers_too, serve_command, serve_loss, serve_reset}
use Rattle.protected_span.proofs.RelatedWithRoom.{Roomed, with_room}

same_ok : {A E : Type 0} (R : A → A → Type 0) (o p : Result A E) → Same R o p → is_ok o ≡ is_ok p
same_ok R (Ok a) (Ok b) h = refl
same_ok R (Err x) (Err y) h = refl
same_ok R (Ok a) (Err y) h = absurd h
same_ok R (Err x) (Ok b) h = absurd h

-- the end of a move isn't BUSY
concluded_free : {A : Type 0} (c : UnitView) (n : Nexus) (cdb bytes : List ℕ) (drives : A) (carried : Result (DeviceView × A) Condition) → (concluded c n cdb bytes drives (judged_at c n cdb bytes) carried).0.1.status ≢ Busy
concluded_free {A} c n cdb bytes drives carried =
    let answer = judged_at c n cdb bytes in
    subst (λ (x : (UnitView × Reply) × A). x.0.1.status ≢ Busy) (sym (concluded_is c n cdb bytes drives answer carried))
    (end_free c n cdb bytes drives answer (is_left answer.2.sense) carried (judged_free (contacted_present c n) n (decoded_command (commands_of c.device) cdb bytes) bytes))

-- the drives of a carried volume have numbers in the other run
both_numbers : {A B : Type 0} (a b : Bool) (x : Result A Condition) (y : Result B Condition) (N M : Type 0) → a ≡ b → is_ok x ≡ is_ok y → ((a && is_ok x) ≡ true → N) → (N → M) → (b && is_ok y) ≡ true → M
both_numbers a b x y N M left ok numbers then both = then (numbers ((λ i. left i && ok i) ∙ both))

-- a served step of the other run
record Next (ws : List UnitView) (e : Event) : Type 0 where
  units : List UnitView
  reply : Reply
  step : Steps ws e (units, reply)
  served : reply.status ≢ Busy

record NextAs (Does : List UnitView × Reply → Type 0) : Type 0 where
  units : List UnitView
  reply : Reply
  step : Does (units, reply)
  served : reply.status ≢ Busy

module _ (lun : ℕ) (inside : Nexus → Bool) (exact : Nexus → (cdb bytes : List ℕ) → Bool) (Kept : UnitView → Type 0) (May : Nexus → (cdb bytes : List ℕ) → UnitView → UnitView → Type 0) (Rel : UnitView → UnitView → Type 0)
    (plain : IsKeptAlong inside exact Kept May Rel) (slots : (f g : UnitView) (n : Nexus) → inside n ≡ true → Rel f g → has_slot g.state.slots n ≡ has_slot f.state.slots n) where
  abbrev R : UnitView → UnitView → Type 0
  R f g = Roomed inside exact Kept May Rel plain slots f g

  along : IsKeptAlong inside exact Kept May R
  along = with_room inside exact Kept May Rel plain slots

  abbrev L : List UnitView → List UnitView → Type 0
  L us ws = Lists lun R us ws

  -- what the two units at a place have in common
  room_next : (k : ℕ) (x y : UnitView) (n : Nexus) → At lun R k x y → ((k == lun) ≡ true → inside n ≡ true) → has_room x.state n ≡ true → has_room y.state n ≡ true
  room_next k x y n a is h =
      elim (k == lun) as (λ b. (k == lun) ≡ b → has_room y.state n ≡ true) [
        | true ↦ λ e. let r = a.here e in room_too x y n (slots x y n (is e) r.rel) r.room h
        | false ↦ λ e. subst (λ (z : UnitView). has_room z.state n ≡ true) (a.away e) h
      ] refl

  number_next : (k : ℕ) (x y : UnitView) → At lun R k x y → HasNumber x → HasNumber y
  number_next k x y a h =
      elim (k == lun) as (λ b. (k == lun) ≡ b → HasNumber y) [
        | true ↦ λ e. number_too x y (a.here e).room h
        | false ↦ λ e. subst (λ (z : UnitView). HasNumber z) (a.away e) h
      ] refl

  numbers_next : (k : ℕ) (x y : UnitView) (count : ℕ) → At lun R k x y → HasNumbers x count → HasNumbers y count
  numbers_next k x y count a h =
      elim (k == lun) as (λ b. (k == lun) ≡ b → HasNumbers y count) [
        | true ↦ λ e. numbers_too x y count (a.here e).room h
        | false ↦ λ e. subst (λ (z : UnitView). HasNumbers z count) (a.away e) h
      ] refl

  left_next : (k : ℕ) (x v y : UnitView) (n : Nexus) (cdb bytes : List ℕ) → At lun R k x y → ((k == lun) ≡ true → inside n ≡ true) → ((k == lun) ≡ true → May n cdb bytes x v) → is_left (judged_at x n cdb bytes).2.sense ≡ is_left (judged_at y n cdb bytes).2.sense
  left_next k x v y n cdb bytes a is may =
      elim (k == lun) as (λ b. (k == lun) ≡ b → is_left (judged_at x n cdb bytes).2.sense ≡ is_left (judged_at y n cdb bytes).2.sense) [
        | true ↦ λ e. ap is_left (along.sense x v y n cdb bytes (is e) (a.here e) (may e))
        | false ↦ λ e. ap (λ (z : UnitView). is_left (judged_at z n cdb bytes).2.sense) (a.away e)
      ] refl

  abbrev GoesOn : (us ms : List UnitView) (at : ℕ) → Nexus → (cdb bytes : List ℕ) → Type 0
  GoesOn us ms at n cdb bytes = Goes lun inside exact Kept May R along us ms at n cdb bytes

  -- the unit at a place after a step there
  may_at : (us ms : List UnitView) (at : ℕ) (x v : UnitView) (n : Nexus) (cdb bytes : List ℕ) → slice_get us at ≡ Some x → slice_get ms at ≡ Some v → GoesOn us ms at n cdb bytes → (at == lun) ≡ true → May n cdb bytes x v
  may_at us ms at x v n cdb bytes here there goes e =
      let same : at ≡ lun = exact_unsigned_eq at lun e in
      (goes x v (ap (slice_get us) (sym same) ∙ here) (ap (slice_get ms) (sym same) ∙ there)).1 e

  -- A COMMAND THAT NAMES NO DRIVE
  alone_next : (us ws ms : List UnitView) (at : ℕ) (x y : UnitView) (n : Nexus) (cdb bytes : List ℕ) (r : Reply) → At lun R at x y → ((at == lun) ≡ true → inside n ≡ true) → r.status ≢ Busy → AtUnit us at (Executes x n cdb bytes) (ms, r)
      → NextAs (AtUnit ws at (Executes y n cdb bytes))
  alone_next us ws ms at x y n cdb bytes r a is free step =
      elim (at == lun) as (λ b. (at == lun) ≡ b → NextAs (AtUnit ws at (Executes y n cdb bytes))) [
        | true ↦ λ e.
            let rel = a.here e in
            let new = answered y n cdb bytes in
            record {
              units = slice_set ws at new.0;
              reply = new.1;
              step = record { unit = new.0; step = serve_command x step.unit y n cdb bytes r (slots x y n (is e) rel.rel) rel.room free step.step; units = refl };
              served = answers_no_busy y n cdb bytes;
            }
        | false ↦ λ e. record { units = slice_set ws at step.unit; reply = r; step = record { unit = step.unit; step = subst (λ (z : UnitView). Executes z n cdb bytes (step.unit, r)) (a.away e) step.step; units = refl }; served = free }
      ] refl

  -- A MOVE WITH ONE DRIVE
  one_next : (us ws ms : List UnitView) (l : ℕ) (c g d o : UnitView) (n : Nexus) (cdb bytes : List ℕ) (r : Reply) → slice_get us 0 ≡ Some c → At lun R 0 c g → At lun R l d o → l ≢ 0 → ((0 == lun) ≡ true → inside n ≡ true) → GoesOn us ms 0 n cdb bytes → r.status ≢ Busy
      → AtDrive us l (MovesOne c d n cdb bytes) (ms, r) → NextAs (AtDrive ws l (MovesOne g o n cdb bytes))
  one_next us ws ms l c g d o n cdb bytes r first changers drives apart is goes free a =
      let x = carried_one c.device d (errand_at c cdb) in
      let y = carried_one g.device o (errand_at g cdb) in
      let looks = looks_at lun inside exact Kept May R along 0 c g changers in
      let count : records_of (errand_at c cdb) ≡ records_of (errand_at g cdb) = ap (λ (z : DeviceView). records_of (errand_at (record c { device = z }) cdb)) looks in
      let N = HasNumbers d (records_of (errand_at c cdb)) in
      let M = HasNumbers o (records_of (errand_at g cdb)) in
      let had = ended_is c a.changer n cdb bytes r d a.other x N free a.step in
      let after : slice_get ms 0 ≡ Some a.changer = ap (λ (xs : List UnitView). slice_get xs 0) a.units ∙ get-set_other (slice_set us 0 a.changer) l 0 a.other apart ∙ get-set_same us 0 a.changer c first in
      let ok : is_ok x ≡ is_ok y =
      ap (λ (z : DeviceView). is_ok (carried_one z d (errand_at (record c { device = z }) cdb))) looks
      ∙ same_ok (With (At lun R l)) (carried_one g.device d (errand_at g cdb)) y (one_alike (At lun R l) (takes_at lun R l along.medium) g.device d o (errand_at g cdb) drives) in
      let new = moved_one g o n cdb bytes in
      record {
        units = slice_set (slice_set ws 0 new.0.0) l new.1;
        reply = new.0.1;
        step = record {
          changer = new.0.0;
          other = new.1;
          step = inr (
            room_next 0 c g n changers is had.room,
            number_next 0 c g changers had.number,
            both_numbers (is_left (judged_at c n cdb bytes).2.sense) (is_left (judged_at g n cdb bytes).2.sense) x y N M (left_next 0 c a.changer g n cdb bytes changers is (may_at us ms 0 c a.changer n cdb bytes first after goes)) ok
                (ended_numbers c a.changer n cdb bytes r d a.other x N free a.step)
                (λ h. numbers_next l d o (records_of (errand_at g cdb)) drives (subst (HasNumbers d) count h)),
            refl,
          );
          units = refl;
        };
        served = concluded_free g n cdb bytes o y;
      }

  -- WITH TWO
  two_next : (us ws ms : List UnitView) (l m : ℕ) (c g : UnitView) (ds os : TwoDrives) (n : Nexus) (cdb bytes : List ℕ) (r : Reply) → slice_get us 0 ≡ Some c → At lun R 0 c g → At lun R l ds.low os.low → At lun R m ds.high os.high → l ≢ 0 → m ≢ 0
      → ((0 == lun) ≡ true → inside n ≡ true) → GoesOn us ms 0 n cdb bytes → r.status ≢ Busy → AtDrives us l m (MovesTwo c ds n cdb bytes) (ms, r) → NextAs (AtDrives ws l m (MovesTwo g os n cdb bytes))
  two_next us ws ms l m c g ds os n cdb bytes r first changers lows highs apart far is goes free a =
      let N = HasNumber ds.low × HasNumber ds.high in
      let x = carried_two c.device ds (errand_at c cdb) in
      let y = carried_two g.device os (errand_at g cdb) in
      let had = ended_is c a.changer n cdb bytes r ds a.drives x N free a.step in
      let xs = slice_set us 0 a.changer in
      let after : slice_get ms 0 ≡ Some a.changer =
      ap (λ (zs : List UnitView). slice_get zs 0) a.units ∙ get-set_other (slice_set xs l a.drives.low) m 0 a.drives.high far ∙ get-set_other xs l 0 a.drives.low apart ∙ get-set_same us 0 a.changer c first in
      let ok : is_ok x ≡ is_ok y =
      ap (λ (z : DeviceView). is_ok (carried_two z ds (errand_at (record c { device = z }) cdb))) (looks_at lun inside exact Kept May R along 0 c g changers)
      ∙ same_ok (With (BothDrives (At lun R l) (At lun R m))) (carried_two g.device ds (errand_at g cdb)) y (two_alike (At lun R l) (At lun R m) (takes_at lun R l along.medium) (takes_at lun R m along.medium) g.device ds os (errand_at g cdb) (lows, highs)) in
      let new = moved_two g os n cdb bytes in
      record {
        units = slice_set (slice_set (slice_set ws 0 new.0.0) l new.1.low) m new.1.high;
        reply = new.0.1;
        step = record {
          changer = new.0.0;
          drives = new.1;
          step = inr (
            room_next 0 c g n changers is had.room,
            number_next 0 c g changers had.number,
            both_numbers (is_left (judged_at c n cdb bytes).2.sense) (is_left (judged_at g n cdb bytes).2.sense) x y N (HasNumber os.low × HasNumber os.high) (left_next 0 c a.changer g n cdb bytes changers is (may_at us ms 0 c a.changer n cdb bytes first after goes)) ok
                (ended_numbers c a.changer n cdb bytes r ds a.drives x N free a.step) (λ both. (number_next l ds.low os.low lows both.0, number_next m ds.high os.high highs both.1)),
            refl,
          );
          units = refl;
        };
        served = concluded_free g n cdb bytes os y;
      }

  -- BY THE DRIVES THAT ARE NAMED
  with_next : (us ws ms : List UnitView) (l : ℕ) (c g : UnitView) (d o : Option UnitView) (n : Nexus) (cdb bytes : List ℕ) (r : Reply) → slice_get us 0 ≡ Some c → At lun R 0 c g → BothAt lun R l d o → l ≢ 0 → ((0 == lun) ≡ true → inside n ≡ true)
      → GoesOn us ms 0 n cdb bytes → r.status ≢ Busy → MovesWith us c l d n cdb bytes (ms, r) → NextAs (MovesWith ws g l o n cdb bytes)
  with_next us ws ms l c g None None n cdb bytes r first changers drives apart is goes free a = alone_next us ws ms 0 c g n cdb bytes r changers is free a
  with_next us ws ms l c g (Some d) (Some o) n cdb bytes r first changers drives apart is goes free a = one_next us ws ms l c g d o n cdb bytes r first changers drives apart is goes free a
  with_next us ws ms l c g None (Some o) n cdb bytes r first changers drives apart is goes free a = absurd drives
  with_next us ws ms l c g (Some d) None n cdb bytes r first changers drives apart is goes free a = absurd drives

  between_next : (us ws ms : List UnitView) (l m : ℕ) (c g : UnitView) (d e o p : Option UnitView) (n : Nexus) (cdb bytes : List ℕ) (r : Reply) → slice_get us 0 ≡ Some c → At lun R 0 c g → BothAt lun R l d o → BothAt lun R m e p → l ≢ 0 → m ≢ 0
      → ((0 == lun) ≡ true → inside n ≡ true) → GoesOn us ms 0 n cdb bytes → r.status ≢ Busy → MovesBetween us c l m d e n cdb bytes (ms, r) → NextAs (MovesBetween ws g l m o p n cdb bytes)
  between_next us ws ms l m c g (Some d) (Some e) (Some o) (Some p) n cdb bytes r first changers lows highs apart far is goes free a =
      two_next us ws ms l m c g (record { low = d; high = e }) (record { low = o; high = p }) n cdb bytes r first changers lows highs apart far is goes free a
  between_next us ws ms l m c g None e None p n cdb bytes r first changers lows highs apart far is goes free a = alone_next us ws ms 0 c g n cdb bytes r changers is free a
  between_next us ws ms l m c g (Some d) None (Some o) None n cdb bytes r first changers lows highs apart far is goes free a = alone_next us ws ms 0 c g n cdb bytes r changers is free a
  between_next us ws ms l m c g None e (Some o) p n cdb bytes r first changers lows highs apart far is goes free a = absurd lows
  between_next us ws ms l m c g (Some d) e None p n cdb bytes r first changers lows highs apart far is goes free a = absurd lows
  between_next us ws ms l m c g (Some d) None (Some o) (Some p) n cdb bytes r first changers lows highs apart far is goes free a = absurd highs
  between_next us ws ms l m c g (Some d) (Some e) (Some o) None n cdb bytes r first changers lows highs apart far is goes free a = absurd highs

  naming_next : (us ws ms : List UnitView) (names : List ℕ) (c g : UnitView) (n : Nexus) (cdb bytes : List ℕ) (r : Reply) → L us ws → slice_get us 0 ≡ Some c → At lun R 0 c g → named (commands_of c.device) (drives_of c.device) cdb ≡ names → ((0 == lun) ≡ true → inside n ≡ true)
      → GoesOn us ms 0 n cdb bytes → r.status ≢ Busy → CommandsNaming us c names n cdb bytes (ms, r) → NextAs (CommandsNaming ws g names n cdb bytes)
  naming_next us ws ms [] c g n cdb bytes r lists first changers names is goes free a = alone_next us ws ms 0 c g n cdb bytes r changers is free a
  naming_next us ws ms (l ∷ []) c g n cdb bytes r lists first changers names is goes free a =
      with_next us ws ms l c g (slice_get us l) (slice_get ws l) n cdb bytes r first changers (at_place lun R us ws l (slice_get us l) (slice_get ws l) refl refl lists) (no_drive c.device cdb l names) is goes free a
  naming_next us ws ms (l ∷ m ∷ more) c g n cdb bytes r lists first changers names is goes free a =
      let apart = no_drives c.device cdb l m more names in
      between_next us ws ms l m c g (slice_get us l) (slice_get us m) (slice_get ws l) (slice_get ws m) n cdb bytes r first changers
      (at_place lun R us ws l (slice_get us l) (slice_get ws l) refl refl lists) (at_place lun R us ws m (slice_get us m) (slice_get ws m) refl refl lists) apart.0 apart.1 is goes free a

  command_next : (us ws ms : List UnitView) (at : ℕ) (o p : Option UnitView) (n : Nexus) (cdb bytes : List ℕ) (r : Reply) → L us ws → slice_get us at ≡ o → BothAt lun R at o p → ((at == lun) ≡ true → inside n ≡ true) → GoesOn us ms at n cdb bytes → r.status ≢ Busy
      → CommandsAt us at o n cdb bytes (ms, r) → NextAs (CommandsAt ws at p n cdb bytes)
  command_next us ws ms at None None n cdb bytes r l here both is goes free a = record { units = ws; reply = r; step = (refl, a.1); served = free }
  command_next us ws ms at None (Some y) n cdb bytes r l here both is goes free a = absurd both
  command_next us ws ms at (Some x) None n cdb bytes r l here both is goes free a = absurd both
  command_next us ws ms (suc k) (Some x) (Some y) n cdb bytes r l here both is goes free a = alone_next us ws ms (suc k) x y n cdb bytes r both is free a
  command_next us ws ms zero (Some x) (Some y) n cdb bytes r l here both is goes free a =
      let it = naming_next us ws ms (named (commands_of x.device) (drives_of x.device) cdb) x y n cdb bytes r l here both refl is goes free a in
      record {
        units = it.units;
        reply = it.reply;
        step = subst (λ (d : DeviceView). CommandsNaming ws y (named (commands_of d) (drives_of d) cdb) n cdb bytes (it.units, it.reply)) (looks_at lun inside exact Kept May R along 0 x y both) it.step;
        served = it.served;
      }

  -- A LOSS, AND A RESET
  loss_next : (us ws ms : List UnitView) (n : Nexus) (at : ℕ) (o p : Option UnitView) (r : Reply) → BothAt lun R at o p → r.status ≢ Busy → LosesAt us at o n (ms, r) → NextAs (LosesAt ws at p n)
  loss_next us ws ms n at None None r both free a = record { units = ws; reply = r; step = ap (λ (x : List UnitView × Reply). let y : List UnitView × Reply = (ws, x.1) in y) a; served = free }
  loss_next us ws ms n at None (Some y) r both free a = absurd both
  loss_next us ws ms n at (Some x) None r both free a = absurd both
  loss_next us ws ms n at (Some x) (Some y) r both free a =
      elim (at == lun) as (λ b. (at == lun) ≡ b → NextAs (LosesAt ws at (Some y) n)) [
        | true ↦ λ e. let s = serve_loss x a.unit y n r (both.here e).room free a.step in record { units = slice_set ws at s.unit; reply = s.reply; step = record { unit = s.unit; step = s.step; units = refl }; served = s.served }
        | false ↦ λ e. record { units = slice_set ws at a.unit; reply = r; step = record { unit = a.unit; step = subst (λ (z : UnitView). IsLost z n (a.unit, r)) (both.away e) a.step; units = refl }; served = free }
      ] refl

  reset_next : (us ws ms : List UnitView) (at : ℕ) (o p : Option UnitView) (r : Reply) → BothAt lun R at o p → r.status ≢ Busy → ResetsAt us at o (ms, r) → NextAs (ResetsAt ws at p)
  reset_next us ws ms at None None r both free a = record { units = ws; reply = r; step = ap (λ (x : List UnitView × Reply). let y : List UnitView × Reply = (ws, x.1) in y) a; served = free }
  reset_next us ws ms at None (Some y) r both free a = absurd both
  reset_next us ws ms at (Some x) None r both free a = absurd both
  reset_next us ws ms at (Some x) (Some y) r both free a =
      elim (at == lun) as (λ b. (at == lun) ≡ b → NextAs (ResetsAt ws at (Some y))) [
        | true ↦ λ e. let s = serve_reset x a.unit y r (both.here e).room free a.step in record { units = slice_set ws at s.unit; reply = s.reply; step = record { unit = s.unit; step = s.step; units = refl }; served = s.served }
        | false ↦ λ e. record { units = slice_set ws at a.unit; reply = r; step = record { unit = a.unit; step = subst (λ (z : UnitView). IsReset z (a.unit, r)) (both.away e) a.step; units = refl }; served = free }
      ] refl

  -- THE NEXT STEP
  next_event : (us ws ms : List UnitView) (e : Event) (r : Reply) → is_struck lun inside e ≡ false → L us ws → Steps us e (ms, r) → InSpan lun Kept May us e r ms → Next ws e
  next_event us ws ms (event.Command n at cdb bytes) r s l step span =
      let it = command_next us ws ms at (slice_get us at) (slice_get ws at) n cdb.items bytes.items r l refl (at_place lun R us ws at (slice_get us at) (slice_get ws at) refl refl l) (λ here. second (at == lun) (inside n) here s) (λ u v before after. span.goes u v before after) span.served step in
      record { units = it.units; reply = it.reply; step = it.step; served = it.served }
    where
      second : (a b : Bool) → a ≡ true → (a && not b) ≡ false → b ≡ true
      second true true e f = refl
      second true false e f = cc
      second false b e f = cc
  next_event us ws ms (event.Loss n at) r s l step span =
      let it = loss_next us ws ms n at (slice_get us at) (slice_get ws at) r (at_place lun R us ws at (slice_get us at) (slice_get ws at) refl refl l) span.served step in
      record { units = it.units; reply = it.reply; step = it.step; served = it.served }
  next_event us ws ms (event.Reset at) r s l step span =
      let it = reset_next us ws ms at (slice_get us at) (slice_get ws at) r (at_place lun R us ws at (slice_get us at) (slice_get ws at) refl refl l) span.served step in
      record { units = it.units; reply = it.reply; step = it.step; served = it.served }

  module _ (us ws vs : List UnitView) (e : Event) (es : List Event) (r : Reply) (rs : List Reply) (l : L us ws) (run : RunsThrough (InSpan lun Kept May) us (e ∷ es) (r ∷ rs) vs)
      (rest : (ns : List UnitView) → L run.0 ns → Serves ns (struck lun inside es)) where
    by_test : (b : Bool) → is_struck lun inside e ≡ b → Serves ws (cond b (struck lun inside es) (e ∷ struck lun inside es))
    by_test true s = rest ws (struck_event lun inside exact Kept May R along us ws run.0 e r s l run.1 run.2)
    by_test false s =
        let x = next_event us ws run.0 e r s l run.1 run.2 in
        let k = kept_event lun inside exact Kept May R along us ws run.0 x.units e r x.reply s l x.served run.1 run.2 x.step in
        let it = rest x.units k.lists in
        record { units = it.units; replies = x.reply ∷ it.replies; run = (x.units, x.step, x.served, it.run) }

  pub serves : (us ws vs : List UnitView) (es : List Event) (rs : List Reply) → L us ws → RunsThrough (InSpan lun Kept May) us es rs vs → Serves ws (struck lun inside es)
  serves us ws vs [] [] l run = record { units = ws; replies = []; run = refl }
  serves us ws vs [] (r ∷ rs) l run = absurd run
  serves us ws vs (e ∷ es) [] l run = absurd run
  serves us ws vs (e ∷ es) (r ∷ rs) l run = by_test us ws vs e es r rs l run (λ ns k. serves run.0 ns vs es rs k run.3) (is_struck lun inside e) refl
