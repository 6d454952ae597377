-- A command at its place in a run.
use Rattle.std.proofs.Common.{◌≡◌, ◌≢◌, ℕ, zero, suc, true, false, List, [], ◌∷◌, ◌++◌, Option, Some, None, Result, Ok, Err, inl, inr, refl, sym, ap, ◌∙◌, subst, take, eq-eqb, arith}
use Rattle.std.specs.Prelude.{◌↔◌, ◌⊎◌, ◌==◌, slice_get, slice_set, IsSome}
use Rattle.std.proofs.lemmas.Map.Views.{exact_unsigned_eq}
use Rattle.scsi_sense.specs.declared.sense.Sense.{Sense}
use Rattle.scsi_sense.specs.declared.status.Status.{Status}
use Rattle.judgement.specs.Commands.{act_of, act_of_decoded}
use Rattle.judgement.specs.Replies.{good, check, IsWhole}
use Rattle.judgement.proofs.Ways.{let_by}
use Rattle.logical_unit.specs.Move.{TwoDrives, is_left, judged_at, errand_at, carried_one, carried_two, MovesOne, MovesTwo, IsSameUnit}
use Rattle.logical_unit.specs.Route.{named}
use Rattle.logical_unit.specs.declared.route.Errand.{Errand}
use Rattle.logical_unit.specs.declared.route.Errand.TheVariants.{Move}
use Rattle.logical_unit.proofs.NamedDrives.{has_errand, has_route}
use Rattle.logical_unit.proofs.LeftToDrives.{attention_ends, by_reset, by_other, is_allowed}
use Rattle.logical_unit.proofs.Moved.{Ends, Became, one_became, two_became}
use Rattle.logical_unit.proofs.SameUnits.{one_same, two_same}
use Rattle.target_core.proofs.Ordered.{one_named, two_named}
use Rattle.scsi_cdb.specs.declared.action.InServiceAction.{InServiceAction}
use Rattle.scsi_nexus.specs.declared.nexus.Nexus.{Nexus}
use Rattle.scsi_sense.specs.declared.condition.Condition.{Condition}
use Rattle.scsi_sense.specs.declared.status.Status.TheVariants.{Good, Busy, ReservationConflict}
use Rattle.unit_attention.specs.declared.kind.Kind.{Kind}
use Rattle.unit_attention.specs.Queues.{first_reset_of, first_other_of}
use Rattle.audit_log.specs.declared.stage.Stage.TheVariants.{ResetAttention, OtherAttention}
use Rattle.pr_core.specs.State.{State}
use Rattle.pr_core.specs.declared.verdict.Verdict.TheVariants.{Allowed}
use Rattle.device_server.specs.View.{DeviceView, commands_of, drives_of}
use Rattle.judgement.specs.declared.command.Command.{Command}
use Rattle.judgement.specs.declared.command.Command.TheVariants.{ReserveIn}
use Rattle.judgement.specs.declared.decision.Decision.{Decision}
use Rattle.judgement.specs.declared.reply.Reply.{Reply}
use Rattle.unit_laws.specs.Check.{ComesToTheCheck, IsDecided}
use Rattle.judgement.specs.Commands.{decoded_command, class_of_command, act_of_command}
use Rattle.judgement.specs.Decisions.{at_stage, let_in}
use Rattle.judgement.specs.Judge.{cell_of, waiting, tells, at_cell, carried_out, let_through, checked, judged_as}
use Rattle.judgement.specs.Readings.{verdict_of, status_data}
use Rattle.judgement.specs.UnitState.{has_room}
use Rattle.logical_unit.specs.Step.{HasNumber, contacted_present, recorded, answered, Executes}
use Rattle.judgement.specs.JudgedUnit.{JudgedUnit}
use Rattle.logical_unit.specs.UnitView.{UnitView}
use Rattle.unit_laws.proofs.Check.{is_decided}
use Rattle.logical_unit.proofs.History.{executes_keeps}
use Rattle.judgement.specs.History.{accepted_by, after_history}
use Rattle.target_core.specs.declared.event.Event.TheVariants as event
use Rattle.target_core.specs.Run.{AtUnit, AtDrive, AtDrives, MovesWith, MovesBetween, CommandsNaming, CommandsAt}
use Rattle.target_core.proofs.History.{get-set_same, get-set_other, adds_nothing}
use Rattle.target_laws.specs.Headline.{by_history, refusal_record, IsRefused, AreThere, IsWithDrives, GoBy, HasEnd, EndsWith, IsCarriedOut, IsStopped, IsLetIn, IsDecidedBy, IsBusy, IsBarred, IsAnswered, IsMovedAt, IsServed, Headline}
use Rattle.judgement.proofs.Carried.{judged_free}
use Rattle.target_laws.proofs.MoveWays.{StopsBy, errand_goes, two_goes, errand_stops, two_stop, end_one, ends_two, no_more}
use Rattle.target_laws.proofs.Parts.{parts, run_grows, set-same}

-- a PERSISTENT RESERVE IN that ends GOOD was carried out
reads : (u : JudgedUnit) (n : Nexus) (a : InServiceAction) (l : ℕ) (bytes : List ℕ) → (let_through u n (ReserveIn a l) bytes).2.status ≡ Good → (let_through u n (ReserveIn a l) bytes).2.payload ≡ take l (status_data u.state.reservations a)
reads u n a l bytes =
    let c = ReserveIn a l in
    elim (waiting (class_of_command c) (first_other_of u.state.slots n)) as (λ (o : Option Kind). let x : JudgedUnit × Decision × Reply = elim o [ Some kind ↦ tells u n kind (let_in (cell_of u n c) OtherAttention) | None ↦ at_cell (cell_of u n c) (carried_out u n c bytes) ] in x.2.status ≡ Good → x.2.payload ≡ take l (status_data u.state.reservations a)) [
      | Some kind ↦ λ good. absurd cc
      | None ↦ λ good. refl
    ]

-- a conflict comes from the check
record IsFromTheCheck (u : JudgedUnit) (n : Nexus) (c : Result Command Condition) : Type 0 where
  command : Command
  decodes : c ≡ Ok command
  ready : waiting (class_of_command command) (first_reset_of u.state.slots n) ≡ None

from_the_check : (u : JudgedUnit) (n : Nexus) (c : Result Command Condition) (bytes : List ℕ) → (judged_as u n c bytes).2.status ≡ ReservationConflict → IsFromTheCheck u n c
from_the_check u n (Err condition) bytes = λ e. absurd cc
from_the_check u n (Ok c) bytes =
    elim (waiting (class_of_command c) (first_reset_of u.state.slots n)) as (λ (o : Option Kind). waiting (class_of_command c) (first_reset_of u.state.slots n) ≡ o → (let x : JudgedUnit × Decision × Reply = elim o [ Some kind ↦ tells u n kind (at_stage ResetAttention) | None ↦ checked u n c bytes ] in x.2.status) ≡ ReservationConflict → IsFromTheCheck u n (Ok c)) [
      | Some kind ↦ λ w e. absurd cc
      | None ↦ λ w e. record { command = c; decodes = refl; ready = w }
    ] refl

module _ (h : State) (mid next : List UnitView) (lun : ℕ) (now left : UnitView) (n : Nexus) (cdb bytes : List ℕ) (r : Reply) (same : now.state.reservations ≡ h) (is : ◌≡◌ {A = UnitView × Reply} (left, r) (answered now n cdb bytes))
    (alone : IsWithDrives mid lun now cdb → is_left (judged_at now n cdb bytes).2.sense ≡ false) where
  refused : (command : Command) → IsDecided now n cdb bytes command → verdict_of h n command ≢ Allowed → IsRefused h now left n command r
  refused command d barred =
      let e = is ∙ d.unchanged (subst (λ (w : State). verdict_of w n command ≢ Allowed) (sym same) barred) in
      record {
        reply = ap (λ (x : UnitView × Reply). x.1) e;
        device = ap (λ (x : UnitView × Reply). x.0.device) e;
        reservations = ap (λ (x : UnitView × Reply). x.0.state.reservations) e;
        contact = ap (λ (x : UnitView × Reply). x.0.state) e;
        base = ap (λ (x : UnitView × Reply). x.0.base) e;
        entry = ap (λ (x : UnitView × Reply). x.0.records) e ∙ ap (λ (w : State). now.records ++ refusal_record w now n command ∷ []) same;
      }

  let_in_by : (command : Command) → IsDecided now n cdb bytes command → verdict_of h n command ≡ Allowed → IsLetIn h mid next lun now left n cdb bytes command r
  let_in_by command d allowed =
      let through = d.carried_out (subst (λ (w : State). verdict_of w n command ≡ Allowed) (sym same) allowed) in
      let e = is ∙ through in
      let u = contacted_present now n in
      record {
        goes_on = inl (record { ends = e; not_left = λ w. ap (λ (x : UnitView × Reply). is_left x.1.sense) (sym through) ∙ alone w });
        shows = λ a l c good.
            let f = e ∙ ap (λ (k : Command). recorded now n (act_of_command k) (let_through u n k bytes)) c in
            ap (λ (x : UnitView × Reply). x.1.payload) f
            ∙ reads u n a l bytes (sym (ap (λ (x : UnitView × Reply). x.1.status) f) ∙ good)
            ∙ ap (λ (w : State). take l (status_data w a)) same;
      }

  pub decided : (command : Command) → ComesToTheCheck now n cdb bytes command → IsDecidedBy h mid next lun now left n cdb bytes command r
  decided command comes =
      let d = is_decided now n cdb bytes command comes in
      record {
        conflicts = subst (λ (w : State). (r.status ≡ ReservationConflict) ↔ (verdict_of w n command ≢ Allowed)) same
            (subst (λ (x : UnitView × Reply). (x.1.status ≡ ReservationConflict) ↔ (verdict_of now.state.reservations n command ≢ Allowed)) (sym is) d.conflicts);
        refused = refused command d;
        let_in = let_in_by command d;
      }

  only_there : r.status ≡ ReservationConflict → IsBarred h now n cdb bytes
  only_there conflict =
      let u = contacted_present now n in
      let f = from_the_check u n (decoded_command (commands_of u.device) cdb bytes) bytes (sym (ap (λ (x : UnitView × Reply). x.1.status) is) ∙ conflict) in
      let comes : ComesToTheCheck now n cdb bytes f.command = record { decodes = f.decodes; ready = f.ready } in
      let d = decided f.command comes in
      record { command = f.command; comes = comes; verdict = d.conflicts.0 conflict }

  pub is_answered : has_room now.state n ≡ true → HasNumber now → IsAnswered h mid next lun now left n cdb bytes r
  is_answered room number = record { room = room; number = number; not_busy = λ e. judged_free (contacted_present now n) n (decoded_command (commands_of now.device) cdb bytes) bytes (sym (ap (λ (x : UnitView × Reply). x.1.status) is) ∙ e); decided = decided; only_there = only_there }

-- A MOVE THAT WAS LEFT to the drives. PERSISTENT RESERVE IN isn't
reads_end : (u : JudgedUnit) (n : Nexus) (a : InServiceAction) (l : ℕ) (bytes : List ℕ) (o : Option Kind) → is_left (by_other u n (ReserveIn a l) bytes o).2.sense ≡ true → ⊥
reads_end u n a l bytes (Some kind) e = attention_ends kind e
reads_end u n a l bytes None e = cc

whole_conflict : (s : Status) (o : Option Sense) → IsWhole s o → s ≢ ReservationConflict
whole_conflict s o (inl w) e = let is = w.0 in cc
whole_conflict s o (inr w) e = let is = w.0 in cc

whole_busy : (s : Status) (o : Option Sense) → IsWhole s o → s ≢ Busy
whole_busy s o (inl w) e = let is = w.0 in cc
whole_busy s o (inr w) e = let is = w.0 in cc

module _ (h : State) (mid next : List UnitView) (lun : ℕ) (now left : UnitView) (n : Nexus) (cdb bytes : List ℕ) (r : Reply) (same : now.state.reservations ≡ h) (device : DeviceView) (reply : Reply) (ends : Ends now left n cdb bytes r device reply) (whole : IsWhole reply.status reply.sense)
    (with_drives : IsWithDrives mid lun now cdb) (way : Errand) (asked : errand_at now cdb ≡ Some way)
    (decides : (command : Command) → EndsWith now left n bytes command r device reply → IsCarriedOut mid next now left n bytes command r way ⊎ IsStopped mid now left n bytes command r way) where
  told : r.status ≡ reply.status
  told = ap (λ (x : UnitView × Reply). x.1.status) ends.unit

  no_conflict : r.status ≢ ReservationConflict
  no_conflict = λ e. whole_conflict reply.status reply.sense whole (sym told ∙ e)

  decided_left : (command : Command) → ComesToTheCheck now n cdb bytes command → IsDecidedBy h mid next lun now left n cdb bytes command r
  decided_left command comes =
      let u = contacted_present now n in
      let judged : judged_at now n cdb bytes ≡ checked u n command bytes = ap (λ (s : Result Command Condition). judged_as u n s bytes) comes.decodes ∙ ap (by_reset u n command bytes) comes.ready in
      let here : is_left (checked u n command bytes).2.sense ≡ true = sym (ap (λ (x : JudgedUnit × Decision × Reply). is_left x.2.sense) judged) ∙ ends.left in
      let allowed = is_allowed u n command bytes (verdict_of now.state.reservations n command) here in
      let through : judged_at now n cdb bytes ≡ let_through u n command bytes = judged ∙ let_by u n command bytes allowed in
      let left_on : is_left (let_through u n command bytes).2.sense ≡ true = sym (ap (λ (x : JudgedUnit × Decision × Reply). is_left x.2.sense) through) ∙ ends.left in
      let by_history : verdict_of h n command ≡ Allowed = subst (λ (w : State). verdict_of w n command ≡ Allowed) same allowed in
      record {
        conflicts = (λ e. absurd (no_conflict e), λ barred. absurd (barred by_history));
        refused = λ barred. absurd (barred by_history);
        let_in = λ is. record {
          goes_on = inr (record {
            with_drives = with_drives;
            left_to_drives = left_on;
            way = way;
            asked = asked;
            ends = decides command
                (ends.unit
                ∙ ap (λ (f : Decision). recorded now n (act_of (commands_of now.device) cdb bytes) (record { device = device; state = now.state }, f, reply)) (sym ends.found ∙ ap (λ (x : JudgedUnit × Decision × Reply). x.1) through)
                ∙ ap (λ (s : Result Command Condition). recorded now n (act_of_decoded s) (record { device = device; state = now.state }, (let_through u n command bytes).1, reply)) comes.decodes);
          });
          shows = λ a l c good.
              absurd (reads_end u n a l bytes (waiting (class_of_command (ReserveIn a l)) (first_other_of u.state.slots n)) (subst (λ (x : Command). is_left (let_through u n x bytes).2.sense ≡ true) c left_on));
        };
      }

  pub is_answered_left : IsAnswered h mid next lun now left n cdb bytes r
  is_answered_left = record {
    room = ends.room;
    number = ends.number;
    not_busy = λ e. whole_busy reply.status reply.sense whole (sym told ∙ e);
    decided = decided_left;
    only_there = λ e. absurd (no_conflict e);
  }

-- what is judged isn't BUSY
free : (now left : UnitView) (n : Nexus) (cdb bytes : List ℕ) (r : Reply) → ◌≡◌ {A = UnitView × Reply} (left, r) (answered now n cdb bytes) → r.status ≢ Busy
free now left n cdb bytes r is e = judged_free (contacted_present now n) n (decoded_command (commands_of now.device) cdb bytes) bytes (sym (ap (λ (x : UnitView × Reply). x.1.status) is) ∙ e)

-- the answer of a unit alone
answer : (mid next : List UnitView) (h : State) (lun : ℕ) (now left : UnitView) (n : Nexus) (cdb bytes : List ℕ) (r : Reply) → now.state.reservations ≡ h → (left ≡ now → next ≡ mid)
    → (r.status ≢ Busy → IsWithDrives mid lun now cdb → is_left (judged_at now n cdb bytes).2.sense ≡ false) → Executes now n cdb bytes (left, r) → IsBusy mid next r ⊎ IsAnswered h mid next lun now left n cdb bytes r
answer mid next h lun now left n cdb bytes r same units alone (inl e) =
    inl (record { reply = ap (λ (x : UnitView × Reply). x.1) e; units = units (ap (λ (x : UnitView × Reply). x.0) e) })
answer mid next h lun now left n cdb bytes r same units alone (inr e) = inr (is_answered h mid next lun now left n cdb bytes r same e.2 (alone (free now left n cdb bytes r e.2)) e.0 e.1)

-- the answer of the changer with drives, which are as they were where it answers alone
answer_by : {A : Type 0} (mid next : List UnitView) (h : State) (now left : UnitView) (n : Nexus) (cdb bytes : List ℕ) (r : Reply) (drives after : A) (carried : Result (DeviceView × A) Condition) (way : Errand) → now.state.reservations ≡ h
    → (left ≡ now → after ≡ drives → next ≡ mid) → IsWithDrives mid 0 now cdb → errand_at now cdb ≡ Some way
    → ((device : DeviceView) → carried ≡ Ok (device, after) → GoBy mid next now.device device way)
    → ((condition : Condition) → carried ≡ Err condition → StopsBy mid now.device way condition)
    → Became now left n cdb bytes r drives after carried → IsBusy mid next r ⊎ IsAnswered h mid next 0 now left n cdb bytes r
answer_by mid next h now left n cdb bytes r drives after carried way same units with_drives asked goes stops (inl alone) = answer mid next h 0 now left n cdb bytes r same (λ is. units is alone.1) (λ free w. alone.2 free) alone.0
answer_by mid next h now left n cdb bytes r drives after carried way same units with_drives asked goes stops (inr (inl halted)) =
    let stop = stops halted.condition halted.refused in
    inr (is_answered_left h mid next 0 now left n cdb bytes r same now.device (check halted.condition) halted.ends (inr (refl, refl)) with_drives way asked
    (λ command e. inr (record { none = stop.1; condition = halted.condition; reported = stop.0; ends = e })))
answer_by mid next h now left n cdb bytes r drives after carried way same units with_drives asked goes stops (inr (inr moved)) =
    inr (is_answered_left h mid next 0 now left n cdb bytes r same moved.device (good []) moved.ends (inl (refl, refl)) with_drives way asked
    (λ command e. inl (record { device = moved.device; goes = goes moved.device moved.is; ends = e })))

-- where there is no slot or no number it was BUSY
busy_where_full : (mid next : List UnitView) (h : State) (lun : ℕ) (now left : UnitView) (n : Nexus) (cdb bytes : List ℕ) (r : Reply) → IsBusy mid next r ⊎ IsAnswered h mid next lun now left n cdb bytes r → (has_room now.state n ≡ false) ⊎ ¬ HasNumber now → IsBusy mid next r
busy_where_full mid next h lun now left n cdb bytes r (inl busy) full = busy
busy_where_full mid next h lun now left n cdb bytes r (inr answered) (inl slots) = let room = answered.room in absurd cc
busy_where_full mid next h lun now left n cdb bytes r (inr answered) (inr number) = absurd (number answered.number)

abbrev pub some_unit : UnitView → Option UnitView
some_unit u = Some u

-- what a command leaves at its unit, and beside it
record Serves (h : State) (mid next : List UnitView) (lun : ℕ) (now : UnitView) (n : Nexus) (cdb bytes : List ℕ) (r : Reply) : Type 0 where
  left : UnitView
  stays : slice_get next lun ≡ Some left
  leaves : left.state.reservations ≡ after_history now.state.reservations (accepted_by (commands_of now.device) n cdb bytes r.status)
  others : (k : ℕ) → k ≢ lun → (slice_get next k ≡ slice_get mid k) ⊎ IsMovedAt mid next lun now left cdb r k
  answers : IsBusy mid next r ⊎ IsAnswered h mid next lun now left n cdb bytes r

alone_serves : (h : State) (mid next : List UnitView) (lun : ℕ) (now : UnitView) (n : Nexus) (cdb bytes : List ℕ) (r : Reply) → slice_get mid lun ≡ Some now → now.state.reservations ≡ h → ¬ IsWithDrives mid lun now cdb → AtUnit mid lun (Executes now n cdb bytes) (next, r)
    → Serves h mid next lun now n cdb bytes r
alone_serves h mid next lun now n cdb bytes r there same alone a = record {
  left = a.unit;
  stays = ap (λ (xs : List UnitView). slice_get xs lun) a.units ∙ get-set_same mid lun a.unit now there;
  leaves = executes_keeps now a.unit n cdb bytes r a.step;
  others = λ k apart. inl (ap (λ (xs : List UnitView). slice_get xs k) a.units ∙ get-set_other mid lun k a.unit (λ e. apart (sym e)));
  answers = answer mid next h lun now a.unit n cdb bytes r same (λ is. a.units ∙ ap (slice_set mid lun) is ∙ set-same mid lun now there) (λ free w. absurd (alone w)) a.step;
}

-- a move leaves the registrations as they were, and adds nothing to the history
move_leaves : (now left : UnitView) (n : Nexus) (cdb bytes : List ℕ) (r : Reply) (l : ℕ) (more : List ℕ) → named (commands_of now.device) (drives_of now.device) cdb ≡ l ∷ more → IsSameUnit now left
    → left.state.reservations ≡ after_history now.state.reservations (accepted_by (commands_of now.device) n cdb bytes r.status)
move_leaves now left n cdb bytes r l more names same = same.reservations ∙ sym (ap (after_history now.state.reservations) (adds_nothing now.device n cdb bytes r l more names))

-- a drive of a move, by whether the volume was carried
module _ {A : Type 0} where
  beside : (mid next : List UnitView) (k : ℕ) (now left : UnitView) (n : Nexus) (cdb bytes : List ℕ) (r : Reply) (drives after : A) (carried : Result (DeviceView × A) Condition) (way : Errand) (of : A → UnitView) → slice_get mid k ≡ Some (of drives) → slice_get next k ≡ Some (of after)
      → errand_at now cdb ≡ Some way → HasEnd way k → ((device : DeviceView) → carried ≡ Ok (device, after) → GoBy mid next now.device device way)
      → Became now left n cdb bytes r drives after carried → (slice_get next k ≡ slice_get mid k) ⊎ IsMovedAt mid next 0 now left cdb r k
  beside mid next k now left n cdb bytes r drives after carried way of there stays asked end goes (inl alone) = inl (stays ∙ ap (λ (a : A). some_unit (of a)) alone.1 ∙ sym there)
  beside mid next k now left n cdb bytes r drives after carried way of there stays asked end goes (inr (inl halted)) = inl (stays ∙ ap (λ (a : A). some_unit (of a)) halted.drives_stay ∙ sym there)
  beside mid next k now left n cdb bytes r drives after carried way of there stays asked end goes (inr (inr moved)) =
      inr (record {
        changer = refl;
        good = ap (λ (x : UnitView × Reply). x.1.status) moved.ends.unit;
        way = way;
        asked = asked;
        end = end;
        goes = subst (λ (x : DeviceView). GoBy mid next now.device x way) (sym (ap (λ (x : UnitView × Reply). x.0.device) moved.ends.unit)) (goes moved.device moved.is);
      })

-- the drives of a move are there, or not
there_is : (us : List UnitView) (l : ℕ) (d : UnitView) → slice_get us l ≡ Some d → IsSome (slice_get us l)
there_is us l d there = subst (λ (o : Option UnitView). IsSome o) (sym there) refl

gone : (us : List UnitView) (l : ℕ) → slice_get us l ≡ None → IsSome (slice_get us l) → ⊥
gone us l none h = let no : false ≡ true = subst (λ (o : Option UnitView). IsSome o) none h in cc

some_named : (names : List ℕ) (l : ℕ) (more : List ℕ) → names ≡ l ∷ more → names ≢ []
some_named names l more is none = let no = sym is ∙ none in cc

one_serves : (h : State) (mid next : List UnitView) (l : ℕ) (now d : UnitView) (n : Nexus) (cdb bytes : List ℕ) (r : Reply) → slice_get mid 0 ≡ Some now → now.state.reservations ≡ h → slice_get mid l ≡ Some d → named (commands_of now.device) (drives_of now.device) cdb ≡ l ∷ []
    → AtDrive mid l (MovesOne now d n cdb bytes) (next, r) → Serves h mid next 0 now n cdb bytes r
one_serves h mid next l now d n cdb bytes r there same drive names a =
    let within = one_named now.device cdb l names in
    let apart : 0 ≢ l = λ e. let low = within.0 in absurd (omega (arith, e, low)) in
    let b = one_became now d a.changer a.other n cdb bytes r l [] names a.step in
    let s = one_same now d a.changer a.other n cdb bytes r l [] names a.step in
    let first = slice_set mid 0 a.changer in
    let drive_there : slice_get first l ≡ Some d = get-set_other mid 0 l a.changer apart ∙ drive in
    let drive_stays : slice_get next l ≡ Some a.other = ap (λ (xs : List UnitView). slice_get xs l) a.units ∙ get-set_same first l a.other d drive_there in
    let q = has_errand now.device cdb l [] names in
    let carried = carried_one now.device d (errand_at now cdb) in
    let by_route : carried_one now.device d (Some q.errand) ≡ carried = sym (ap (carried_one now.device d) q.is) in
    let goes : (device : DeviceView) → carried ≡ Ok (device, a.other) → GoBy mid next now.device device q.errand = λ device is. errand_goes mid next now.device device q.errand l d a.other q.names drive drive_stays (by_route ∙ is) in
    record {
      left = a.changer;
      stays = ap (λ (xs : List UnitView). slice_get xs 0) a.units ∙ get-set_other first l 0 a.other (λ e. apart (sym e)) ∙ get-set_same mid 0 a.changer now there;
      leaves = move_leaves now a.changer n cdb bytes r l [] names s.0;
      others = λ k off. elim (l == k) as (λ t. (l == k) ≡ t → (slice_get next k ≡ slice_get mid k) ⊎ IsMovedAt mid next 0 now a.changer cdb r k) [
        | true ↦ λ t.
            let is : l ≡ k = exact_unsigned_eq l k t in
            subst (λ i. (slice_get next i ≡ slice_get mid i) ⊎ IsMovedAt mid next 0 now a.changer cdb r i) is
            (beside mid next l now a.changer n cdb bytes r d a.other carried q.errand (λ x. x) drive drive_stays q.is (end_one q.errand l q.names) goes b)
        | false ↦ λ t.
            let other : l ≢ k = λ is. let yes : (l == k) ≡ true = eq-eqb l k is in cc in
            inl (ap (λ (xs : List UnitView). slice_get xs k) a.units ∙ get-set_other first l k a.other other ∙ get-set_other mid 0 k a.changer (λ e. off (sym e)))
      ] refl;
      answers = answer_by mid next h now a.changer n cdb bytes r d a.other carried q.errand same
          (λ is state. a.units ∙ ap (λ (u : UnitView). slice_set (slice_set mid 0 u) l a.other) is ∙ ap (λ (xs : List UnitView). slice_set xs l a.other) (set-same mid 0 now there) ∙ ap (slice_set mid l) state ∙ set-same mid l d drive)
          (record { changer = refl; some = some_named (named (commands_of now.device) (drives_of now.device) cdb) l [] names; there = subst (AreThere mid) (sym names) (there_is mid l d drive, tt) }) q.is goes
          (λ condition is. errand_stops mid now.device q.errand condition l d q.names drive (by_route ∙ is)) b;
    }

two_serves : (h : State) (mid next : List UnitView) (l m : ℕ) (more : List ℕ) (now : UnitView) (ds : TwoDrives) (n : Nexus) (cdb bytes : List ℕ) (r : Reply) → slice_get mid 0 ≡ Some now → now.state.reservations ≡ h → slice_get mid l ≡ Some ds.low → slice_get mid m ≡ Some ds.high
    → named (commands_of now.device) (drives_of now.device) cdb ≡ l ∷ m ∷ more → AtDrives mid l m (MovesTwo now ds n cdb bytes) (next, r) → Serves h mid next 0 now n cdb bytes r
two_serves h mid next l m more now ds n cdb bytes r there same low high names a =
    let within = two_named now.device cdb l m more names in
    let one : 0 ≢ l = λ e. let w = within.0 in absurd (omega (arith, e, w)) in
    let two : 0 ≢ m = λ e. let w = within.1 in absurd (omega (arith, e, w)) in
    let three : l ≢ m = λ e. let w = within.1 in absurd (omega (arith, e, w)) in
    let b = two_became now a.changer ds a.drives n cdb bytes r l (m ∷ more) names a.step in
    let s = two_same now a.changer ds a.drives n cdb bytes r l (m ∷ more) names a.step in
    let first = slice_set mid 0 a.changer in
    let second = slice_set first l a.drives.low in
    let q = has_route now.device cdb l m more names in
    let carried = carried_two now.device ds (errand_at now cdb) in
    let by_route : carried_two now.device ds (Some (Move q.route)) ≡ carried = sym (ap (carried_two now.device ds) q.is) in
    let ends = ends_two q.route l m more q.names in
    let low_there : slice_get first l ≡ Some ds.low = get-set_other mid 0 l a.changer one ∙ low in
    let high_there : slice_get second m ≡ Some ds.high = get-set_other first l m a.drives.low three ∙ get-set_other mid 0 m a.changer two ∙ high in
    let low_stays : slice_get next l ≡ Some a.drives.low
    = ap (λ (xs : List UnitView). slice_get xs l) a.units ∙ get-set_other second m l a.drives.high (λ e. three (sym e)) ∙ get-set_same first l a.drives.low ds.low low_there in
    let high_stays : slice_get next m ≡ Some a.drives.high = ap (λ (xs : List UnitView). slice_get xs m) a.units ∙ get-set_same second m a.drives.high ds.high high_there in
    let goes : (device : DeviceView) → carried ≡ Ok (device, a.drives) → GoBy mid next now.device device (Move q.route) =
    λ device is. two_goes mid next now.device device q.route l m more ds a.drives q.names low low_stays high high_stays (by_route ∙ is) in
    record {
      left = a.changer;
      stays = ap (λ (xs : List UnitView). slice_get xs 0) a.units ∙ get-set_other second m 0 a.drives.high (λ e. two (sym e)) ∙ get-set_other first l 0 a.drives.low (λ e. one (sym e)) ∙ get-set_same mid 0 a.changer now there;
      leaves = move_leaves now a.changer n cdb bytes r l (m ∷ more) names s.0;
      others = λ k off. elim (l == k) as (λ t. (l == k) ≡ t → (slice_get next k ≡ slice_get mid k) ⊎ IsMovedAt mid next 0 now a.changer cdb r k) [
        | true ↦ λ t.
            let is : l ≡ k = exact_unsigned_eq l k t in
            subst (λ i. (slice_get next i ≡ slice_get mid i) ⊎ IsMovedAt mid next 0 now a.changer cdb r i) is
            (beside mid next l now a.changer n cdb bytes r ds a.drives carried (Move q.route) (λ (x : TwoDrives). x.low) low low_stays q.is ends.0 goes b)
        | false ↦ λ t.
            let other : l ≢ k = λ is. let yes : (l == k) ≡ true = eq-eqb l k is in cc in
            elim (m == k) as (λ u. (m == k) ≡ u → (slice_get next k ≡ slice_get mid k) ⊎ IsMovedAt mid next 0 now a.changer cdb r k) [
              | true ↦ λ u.
                  let is : m ≡ k = exact_unsigned_eq m k u in
                  subst (λ i. (slice_get next i ≡ slice_get mid i) ⊎ IsMovedAt mid next 0 now a.changer cdb r i) is
                  (beside mid next m now a.changer n cdb bytes r ds a.drives carried (Move q.route) (λ (x : TwoDrives). x.high) high high_stays q.is ends.1 goes b)
              | false ↦ λ u.
                  let far : m ≢ k = λ is. let yes : (m == k) ≡ true = eq-eqb m k is in cc in
                  inl (ap (λ (xs : List UnitView). slice_get xs k) a.units ∙ get-set_other second m k a.drives.high far ∙ get-set_other first l k a.drives.low other ∙ get-set_other mid 0 k a.changer (λ e. off (sym e)))
            ] refl
      ] refl;
      answers = answer_by mid next h now a.changer n cdb bytes r ds a.drives carried (Move q.route) same
          (λ is state.
          a.units ∙ ap (λ (u : UnitView). slice_set (slice_set (slice_set mid 0 u) l a.drives.low) m a.drives.high) is
          ∙ ap (λ (xs : List UnitView). slice_set (slice_set xs l a.drives.low) m a.drives.high) (set-same mid 0 now there)
          ∙ ap (λ (x : TwoDrives). slice_set (slice_set mid l x.low) m x.high) state ∙ ap (λ (xs : List UnitView). slice_set xs m ds.high) (set-same mid l ds.low low) ∙ set-same mid m ds.high high)
          (record {
            changer = refl;
            some = some_named (named (commands_of now.device) (drives_of now.device) cdb) l (m ∷ more) names;
            there = subst (AreThere mid) (sym names) (there_is mid l ds.low low, (there_is mid m ds.high high, subst (AreThere mid) (sym (no_more q.route.from q.route.to l m more q.names)) tt));
          }) q.is goes
          (λ condition is. two_stop mid now.device q.route condition l m more ds q.names low high (by_route ∙ is)) b;
    }

with_serves : (h : State) (mid next : List UnitView) (l : ℕ) (now : UnitView) (n : Nexus) (cdb bytes : List ℕ) (r : Reply) (d : Option UnitView) → slice_get mid 0 ≡ Some now → now.state.reservations ≡ h → slice_get mid l ≡ d → named (commands_of now.device) (drives_of now.device) cdb ≡ l ∷ []
    → MovesWith mid now l d n cdb bytes (next, r) → Serves h mid next 0 now n cdb bytes r
with_serves h mid next l now n cdb bytes r None there same drive names step =
    alone_serves h mid next 0 now n cdb bytes r there same (λ w. gone mid l drive (subst (AreThere mid) names w.there).0) step
with_serves h mid next l now n cdb bytes r (Some d) there same drive names step = one_serves h mid next l now d n cdb bytes r there same drive names step

between_serves : (h : State) (mid next : List UnitView) (l m : ℕ) (more : List ℕ) (now : UnitView) (n : Nexus) (cdb bytes : List ℕ) (r : Reply) (d e : Option UnitView) → slice_get mid 0 ≡ Some now → now.state.reservations ≡ h → slice_get mid l ≡ d → slice_get mid m ≡ e
    → named (commands_of now.device) (drives_of now.device) cdb ≡ l ∷ m ∷ more → MovesBetween mid now l m d e n cdb bytes (next, r) → Serves h mid next 0 now n cdb bytes r
between_serves h mid next l m more now n cdb bytes r None e there same low high names step =
    alone_serves h mid next 0 now n cdb bytes r there same (λ w. gone mid l low (subst (AreThere mid) names w.there).0) step
between_serves h mid next l m more now n cdb bytes r (Some d) None there same low high names step =
    alone_serves h mid next 0 now n cdb bytes r there same (λ w. gone mid m high (subst (AreThere mid) names w.there).1.0) step
between_serves h mid next l m more now n cdb bytes r (Some d) (Some e) there same low high names step = two_serves h mid next l m more now (record { low = d; high = e }) n cdb bytes r there same low high names step

naming_serves : (h : State) (mid next : List UnitView) (names : List ℕ) (now : UnitView) (n : Nexus) (cdb bytes : List ℕ) (r : Reply) → slice_get mid 0 ≡ Some now → now.state.reservations ≡ h → named (commands_of now.device) (drives_of now.device) cdb ≡ names
    → CommandsNaming mid now names n cdb bytes (next, r) → Serves h mid next 0 now n cdb bytes r
naming_serves h mid next [] now n cdb bytes r there same is step = alone_serves h mid next 0 now n cdb bytes r there same (λ w. w.some is) step
naming_serves h mid next (l ∷ []) now n cdb bytes r there same is step = with_serves h mid next l now n cdb bytes r (slice_get mid l) there same refl is step
naming_serves h mid next (l ∷ m ∷ more) now n cdb bytes r there same is step = between_serves h mid next l m more now n cdb bytes r (slice_get mid l) (slice_get mid m) there same refl refl is step

serves : (h : State) (mid next : List UnitView) (lun : ℕ) (now : UnitView) (n : Nexus) (cdb bytes : List ℕ) (r : Reply) → slice_get mid lun ≡ Some now → now.state.reservations ≡ h → CommandsAt mid lun (Some now) n cdb bytes (next, r) → Serves h mid next lun now n cdb bytes r
serves h mid next zero now n cdb bytes r there same step = naming_serves h mid next (named (commands_of now.device) (drives_of now.device) cdb) now n cdb bytes r there same refl step
serves h mid next (suc k) now n cdb bytes r there same step = alone_serves h mid next (suc k) now n cdb bytes r there same (λ w. let no = w.changer in cc) step

-- a command that is made is served by the registrations, the reservation and the generation that stand at its unit
pub is_served : (h : State) (mid next : List UnitView) (lun : ℕ) (now : UnitView) (n : Nexus) (cdb bytes : List ℕ) (r : Reply) → slice_get mid lun ≡ Some now → now.state.reservations ≡ h → CommandsAt mid lun (Some now) n cdb bytes (next, r) → IsServed h mid next lun n cdb bytes r
is_served h mid next lun now n cdb bytes r there same step =
    let s = serves h mid next lun now n cdb bytes r there same step in
    record {
      now = now;
      left = s.left;
      there = there;
      stays = s.stays;
      history = same;
      leaves = s.leaves ∙ ap (λ (w : State). after_history w (accepted_by (commands_of now.device) n cdb bytes r.status)) same;
      others = s.others;
      answer = s.answers;
      full = busy_where_full mid next h lun now s.left n cdb bytes r s.answers;
    }

pub served : Headline
served us vs before after rs qs n lun cdb bytes r u asked =
    let p = parts us vs before (event.Command n lun cdb bytes ∷ after) rs (r ∷ qs) asked.place asked.run in
    let next = p.rest.0 in
    let g = run_grows us p.mid before rs lun u p.first asked.there in
    record {
      mid = p.mid;
      next = next;
      first = p.first;
      step = p.rest.1;
      rest = p.rest.2;
      served = is_served (by_history u lun before rs) p.mid next lun g.unit n cdb.items bytes.items r g.place g.history
          (subst (λ (o : Option UnitView). CommandsAt p.mid lun o n cdb.items bytes.items (next, r)) g.place p.rest.1);
    }
