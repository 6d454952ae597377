-- How a MOVE MEDIUM ends that names drives: judged at the changer, and where that leaves it to the drives, by what is carried.
use Rattle.std.proofs.Common.{◌≡◌, ◌≢◌, ℕ, Bool, true, false, cond, List, [], Result, Ok, Err, refl, sym, ap, ◌∙◌, subst, inl, inr}
use Rattle.std.specs.Prelude.{◌⊎◌}
use Rattle.scsi_nexus.specs.declared.nexus.Nexus.{Nexus}
use Rattle.scsi_sense.specs.declared.condition.Condition.{Condition}
use Rattle.scsi_sense.specs.declared.status.Status.TheVariants.{Busy}
use Rattle.device_server.specs.View.{DeviceView, commands_of}
use Rattle.judgement.specs.JudgedUnit.{JudgedUnit}
use Rattle.judgement.specs.declared.decision.Decision.{Decision}
use Rattle.judgement.specs.declared.reply.Reply.{Reply}
use Rattle.judgement.specs.Replies.{busy, good, check}
use Rattle.judgement.specs.Commands.{decoded_command, act_of}
use Rattle.judgement.specs.UnitState.{has_room}
use Rattle.logical_unit.specs.Move.{is_left, judged_at, ended, concluded, is_carried}
use Rattle.logical_unit.specs.Step.{recorded, HasNumber, contacted_present}
use Rattle.logical_unit.specs.UnitView.{UnitView}
use Rattle.protected_span.proofs.Carry.{Same, With}
use Rattle.pr_core.specs.State.{State}
use Rattle.protected_span.proofs.InsidersView.{Says}
use Rattle.judgement.specs.UnitStateView.{UnitStateView}
use Rattle.protected_span.proofs.Changes.{Change, judged_changes}
use Rattle.protected_span.proofs.Insider.{says-refl}
use Rattle.protected_span.proofs.Units.{not_busy, Beside, Moved, moved}

-- the answer, and the drives, by whether the command was left to them
abbrev pub end_answer : {A : Type 0} → Bool → JudgedUnit × Decision × Reply → Result (DeviceView × A) Condition → JudgedUnit × Decision × Reply
end_answer false answer carried = answer
end_answer true answer (Ok it) = (record answer.0 { device = it.0 }, answer.1, good [])
end_answer true answer (Err condition) = (answer.0, answer.1, check condition)

abbrev pub end_drives : {A : Type 0} → Bool → A → Result (DeviceView × A) Condition → A
end_drives false drives carried = drives
end_drives true drives (Ok it) = it.1
end_drives true drives (Err condition) = drives

-- a move with any number of drives: BUSY, or concluded
abbrev pub MovesBy : {A : Type 0} → UnitView → Nexus → (cdb bytes : List ℕ) → A → Result (DeviceView × A) Condition → Type 0 → (UnitView × Reply) × A → Type 0
MovesBy c n cdb bytes drives carried Numbers new =
    (new ≡ ((c, busy), drives))
    ⊎ ((has_room c.state n ≡ true) × HasNumber c × (is_carried (judged_at c n cdb bytes) carried ≡ true → Numbers) × (new ≡ concluded c n cdb bytes drives (judged_at c n cdb bytes) carried))

-- that it isn't answered BUSY
pub record Ended {A : Type 0} (c v : UnitView) (n : Nexus) (cdb bytes : List ℕ) (r : Reply) (drives after : A) (carried : Result (DeviceView × A) Condition) : Type 0 where
  pub room : has_room c.state n ≡ true
  pub number : HasNumber c
  pub unit : (v, r) ≡ recorded c n (act_of (commands_of c.device) cdb bytes) (end_answer (is_left (judged_at c n cdb bytes).2.sense) (judged_at c n cdb bytes) carried)
  pub drives_are : after ≡ end_drives (is_left (judged_at c n cdb bytes).2.sense) drives carried

module _ {A : Type 0} (c : UnitView) (n : Nexus) (cdb bytes : List ℕ) (drives : A) (answer : JudgedUnit × Decision × Reply) where
  abbrev pub end_of : Bool → Result (DeviceView × A) Condition → (UnitView × Reply) × A
  end_of b carried = (recorded c n (act_of (commands_of c.device) cdb bytes) (end_answer b answer carried), end_drives b drives carried)

  concluded_by : (b : Bool) (carried : Result (DeviceView × A) Condition)
      → ◌≡◌ {A = (UnitView × Reply) × A} (cond b (ended c n cdb bytes drives answer carried) (recorded c n (act_of (commands_of c.device) cdb bytes) answer, drives)) (end_of b carried)
  concluded_by true (Ok it) = refl
  concluded_by true (Err condition) = refl
  concluded_by false carried = refl

  pub concluded_is : (carried : Result (DeviceView × A) Condition) → concluded c n cdb bytes drives answer carried ≡ end_of (is_left answer.2.sense) carried
  concluded_is carried = concluded_by (is_left answer.2.sense) carried

  -- an end is never BUSY
  pub end_free : (b : Bool) (carried : Result (DeviceView × A) Condition) → answer.2.status ≢ Busy → (end_answer b answer carried).2.status ≢ Busy
  end_free false carried free = free
  end_free true (Ok it) free = λ e. cc
  end_free true (Err condition) free = λ e. cc

module _ {A : Type 0} (c v : UnitView) (n : Nexus) (cdb bytes : List ℕ) (r : Reply) (drives after : A) (carried : Result (DeviceView × A) Condition) (Numbers : Type 0) where
  pub end_of_move : (has_room c.state n ≡ true) × HasNumber c × (is_carried (judged_at c n cdb bytes) carried ≡ true → Numbers) × (◌≡◌ {A = (UnitView × Reply) × A} ((v, r), after) (concluded c n cdb bytes drives (judged_at c n cdb bytes) carried)) → Ended c v n cdb bytes r drives after carried
  end_of_move e =
      let is = e.3 ∙ concluded_is c n cdb bytes drives (judged_at c n cdb bytes) carried in
      record {
        room = e.0;
        number = e.1;
        unit = ap (λ (x : (UnitView × Reply) × A). x.0) is;
        drives_are = ap (λ (x : (UnitView × Reply) × A). x.1) is;
      }

  pub ended_is : r.status ≢ Busy → MovesBy c n cdb bytes drives carried Numbers ((v, r), after) → Ended c v n cdb bytes r drives after carried
  ended_is free (inl e) = absurd (not_busy r busy (ap (λ (x : (UnitView × Reply) × A). x.0.1) e) refl free)
  ended_is free (inr e) = end_of_move e

  -- where the volume is carried, the drives had numbers
  pub ended_numbers : r.status ≢ Busy → MovesBy c n cdb bytes drives carried Numbers ((v, r), after) → is_carried (judged_at c n cdb bytes) carried ≡ true → Numbers
  ended_numbers free (inl e) = absurd (not_busy r busy (ap (λ (x : (UnitView × Reply) × A). x.0.1) e) refl free)
  ended_numbers free (inr e) = e.2

-- what is kept is what judgement leaves
pub end_kept : {A : Type 0} (left : Bool) (answer : JudgedUnit × Decision × Reply) (carried : Result (DeviceView × A) Condition) → (end_answer left answer carried).0.state ≡ answer.0.state
end_kept false answer carried = refl
end_kept true answer (Ok it) = refl
end_kept true answer (Err condition) = refl

pub ended_kept : {A : Type 0} (c v : UnitView) (n : Nexus) (cdb bytes : List ℕ) (r : Reply) (drives after : A) (carried : Result (DeviceView × A) Condition) → Ended c v n cdb bytes r drives after carried → v.state ≡ (judged_at c n cdb bytes).0.state
ended_kept c v n cdb bytes r drives after carried e = ap (λ (x : UnitView × Reply). x.0.state) e.unit ∙ end_kept (is_left (judged_at c n cdb bytes).2.sense) (judged_at c n cdb bytes) carried

pub ended_changes : {A : Type 0} (c v : UnitView) (n : Nexus) (cdb bytes : List ℕ) (r : Reply) (drives after : A) (carried : Result (DeviceView × A) Condition) → Ended c v n cdb bytes r drives after carried → Change c.state.reservations n v.state.reservations
ended_changes c v n cdb bytes r drives after carried e =
    subst (λ (k : UnitStateView). Change c.state.reservations n k.reservations) (sym (ended_kept c v n cdb bytes r drives after carried e)) (judged_changes (contacted_present c n) n (decoded_command (commands_of c.device) cdb bytes) bytes)

-- AT THE SAME CHANGER, with drives that are related
module _ {A : Type 0} (Q : A → A → Type 0) where
  same_ends : (b : Bool) (answer : JudgedUnit × Decision × Reply) (d e : A) (x y : Result (DeviceView × A) Condition) → Q d e → Same (With Q) x y → (end_answer b answer x ≡ end_answer b answer y) × Q (end_drives b d x) (end_drives b e y)
  same_ends false answer d e x y q h = (refl, q)
  same_ends true answer d e (Ok x) (Ok y) q h = (ap (λ (device : DeviceView). let z : JudgedUnit × Decision × Reply = (record answer.0 { device = device }, answer.1, good []) in z) h.0, h.1)
  same_ends true answer d e (Err x) (Err y) q h = (ap (λ (condition : Condition). let z : JudgedUnit × Decision × Reply = (answer.0, answer.1, check condition) in z) h, q)
  same_ends true answer d e (Ok x) (Err y) q h = absurd h
  same_ends true answer d e (Err x) (Ok y) q h = absurd h

  pub record SameEnd (v w : UnitView) (r q : Reply) (after other : A) : Type 0 where
    pub unit : v ≡ w
    pub reply : r ≡ q
    pub drives : Q after other

  pub same_changer : (c v w : UnitView) (n : Nexus) (cdb bytes : List ℕ) (r q : Reply) (d e after other : A) (x y : Result (DeviceView × A) Condition) → Q d e → Same (With Q) x y
      → Ended c v n cdb bytes r d after x → Ended c w n cdb bytes q e other y → SameEnd v w r q after other
  same_changer c v w n cdb bytes r q d e after other x y related alike a b =
      let answer = judged_at c n cdb bytes in
      let left = is_left answer.2.sense in
      let ends = same_ends left answer d e x y related alike in
      let is = a.unit ∙ ap (λ (z : JudgedUnit × Decision × Reply). recorded c n (act_of (commands_of c.device) cdb bytes) z) ends.0 ∙ sym b.unit in
      record {
        unit = ap (λ (z : UnitView × Reply). z.0) is;
        reply = ap (λ (z : UnitView × Reply). z.1) is;
        drives = subst (λ (z : A). Q z other) (sym a.drives_are) (subst (λ (z : A). Q (end_drives left d x) z) (sym b.drives_are) ends.1);
      }

-- AT CHANGERS THAT LOOK ALIKE to those inside, with the same drives
module _ (inside : Nexus → Bool) (P : State → Type 0) (R : State → State → Type 0) (exact : Bool) where
  pub same_sense : (b : Bool) (x y : Reply) → Says b x y → x.sense ≡ y.sense
  same_sense true x y h = ap (λ (z : Reply). z.sense) h
  same_sense false x y h = h.sense

  pub left_alike : (x y : JudgedUnit × Decision × Reply) → Beside inside P R exact x y → is_left x.2.sense ≡ is_left y.2.sense
  left_alike x y b = ap is_left (same_sense exact x.2 y.2 b.reply)

  ends_beside : {A : Type 0} (left : Bool) (x y : JudgedUnit × Decision × Reply) (carried : Result (DeviceView × A) Condition) → Beside inside P R exact x y → Beside inside P R exact (end_answer left x carried) (end_answer left y carried)
  ends_beside false x y carried b = b
  ends_beside true x y (Ok it) b = record { device = refl; state = b.state; reply = says-refl exact _; reservations = b.reservations }
  ends_beside true x y (Err condition) b = record { device = b.device; state = b.state; reply = says-refl exact _; reservations = b.reservations }

  pub move_units : {A : Type 0} (f f' g g' : UnitView) (n : Nexus) (cdb bytes : List ℕ) (r q : Reply) (drives after other : A) (x y : Result (DeviceView × A) Condition) → P f'.state.reservations
      → Beside inside P R exact (judged_at f n cdb bytes) (judged_at g n cdb bytes) → x ≡ y
      → Ended f f' n cdb bytes r drives after x → Ended g g' n cdb bytes q drives other y → Moved inside R exact f' g' r q × (after ≡ other)
  move_units f f' g g' n cdb bytes r q drives after other x y good b same a d =
      let j = judged_at f n cdb bytes in
      let k = judged_at g n cdb bytes in
      let left = left_alike j k b in
      let ends = ends_beside (is_left j.2.sense) j k x b in
      let here : end_answer (is_left j.2.sense) k x ≡ end_answer (is_left k.2.sense) k y = λ i. end_answer (left i) k (same i) in (
        moved inside f f' g g' n _ _ _ _ r q R exact P good a.unit d.unit (subst (λ (z : JudgedUnit × Decision × Reply). Beside inside P R exact (end_answer (is_left j.2.sense) j x) z) here ends),
        a.drives_are ∙ (λ i. end_drives (left i) drives (same i)) ∙ sym d.drives_are,
      )
