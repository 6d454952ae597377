-- What became of a MOVE MEDIUM or an EXCHANGE MEDIUM with the drives that it names: the changer answered it alone, and the drives are as they were; or it was left
-- to the drives, and ended with nothing carried, or with the volume carried.
use Rattle.std.proofs.Common.{◌≡◌, ℕ, Bool, true, false, List, [], ◌∷◌, Option, Some, Result, Ok, Err, refl, sym, ap, ◌∙◌, subst, inl, inr}
use Rattle.std.specs.Prelude.{◌⊎◌, ◌≢◌, cond}
use Rattle.scsi_nexus.specs.declared.nexus.Nexus.{Nexus}
use Rattle.scsi_sense.specs.declared.condition.Condition.{Condition}
use Rattle.scsi_sense.specs.declared.status.Status.TheVariants.{Busy}
use Rattle.device_server.specs.View.{DeviceView, commands_of, drives_of}
use Rattle.judgement.specs.JudgedUnit.{JudgedUnit}
use Rattle.judgement.specs.declared.decision.Decision.{Decision}
use Rattle.judgement.specs.declared.reply.Reply.{Reply}
use Rattle.judgement.specs.Replies.{busy, good, check}
use Rattle.judgement.specs.Commands.{decoded_command, act_of}
use Rattle.judgement.specs.UnitState.{has_room}
use Rattle.logical_unit.specs.MoveJudgement.{HasWays}
use Rattle.logical_unit.specs.Move.{TwoDrives, is_left, judged_at, errand_at, ended, concluded, carried_one, carried_two, MovesOne, MovesTwo}
use Rattle.logical_unit.specs.Route.{named}
use Rattle.logical_unit.specs.Step.{recorded, HasNumber, Executes}
use Rattle.logical_unit.specs.UnitView.{UnitView}
use Rattle.logical_unit.specs.declared.route.Errand.{Errand}
use Rattle.logical_unit.proofs.LeftToDrives.{opens}
use Rattle.logical_unit.proofs.NamedDrives.{HasErrand, has_errand}

-- the changer ends a move that was left to the drives by a reply, with this device
pub record Ends (c v : UnitView) (n : Nexus) (cdb bytes : List ℕ) (r : Reply) (device : DeviceView) (reply : Reply) : Type 0 where
  pub room : has_room c.state n ≡ true
  pub number : HasNumber c
  pub left : is_left (judged_at c n cdb bytes).2.sense ≡ true
  pub decision : Decision
  pub found : (judged_at c n cdb bytes).1 ≡ decision
  pub present : (judged_at c n cdb bytes).0 ≡ record { device = c.device; state = c.state }
  pub ways : (errand : Errand) → errand_at c cdb ≡ Some errand → HasWays c.device errand
  pub unit : (v, r) ≡ recorded c n (act_of (commands_of c.device) cdb bytes) (record { device = device; state = c.state }, decision, reply)

-- the three ways, with the drives before and after; what the changer answered alone, but for BUSY, wasn't left
abbrev pub IsAlone : {A : Type 0} → UnitView → UnitView → Nexus → (cdb bytes : List ℕ) → Reply → (drives after : A) → Type 0
IsAlone c v n cdb bytes r drives after =
    Executes c n cdb bytes (v, r) × (after ≡ drives) × (r.status ≢ Busy → is_left (judged_at c n cdb bytes).2.sense ≡ false)

pub record IsStopped {A : Type 0} (c v : UnitView) (n : Nexus) (cdb bytes : List ℕ) (r : Reply) (drives after : A) (carried : Result (DeviceView × A) Condition) : Type 0 where
  pub condition : Condition
  pub refused : carried ≡ Err condition
  pub ends : Ends c v n cdb bytes r c.device (check condition)
  pub drives_stay : after ≡ drives

pub record IsMoved {A : Type 0} (c v : UnitView) (n : Nexus) (cdb bytes : List ℕ) (r : Reply) (drives after : A) (carried : Result (DeviceView × A) Condition) : Type 0 where
  pub device : DeviceView
  pub is : carried ≡ Ok (device, after)
  pub ends : Ends c v n cdb bytes r device (good [])

abbrev pub Became : {A : Type 0} → UnitView → UnitView → Nexus → (cdb bytes : List ℕ) → Reply → (drives after : A) → Result (DeviceView × A) Condition → Type 0
Became c v n cdb bytes r drives after carried =
    IsAlone c v n cdb bytes r drives after ⊎ (IsStopped c v n cdb bytes r drives after carried ⊎ IsMoved c v n cdb bytes r drives after carried)

some_is : (a b : Errand) → ◌≡◌ {A = Option Errand} (Some a) (Some b) → a ≡ b
some_is a b h = cc

abbrev pub carried_to : {A : Type 0} → DeviceView → A → Result (DeviceView × A) Condition
carried_to device a = Ok (device, a)

abbrev pub concluded_by : {A : Type 0} → Bool → (alone left : (UnitView × Reply) × A) → (UnitView × Reply) × A
concluded_by b alone left = cond b left alone

module _ {A : Type 0} (c v : UnitView) (n : Nexus) (cdb bytes : List ℕ) (r : Reply) (drives after : A) where
  -- the answer of a changer that was left a move, whatever is reported
  ends_by : (l : ℕ) (more : List ℕ) (device : DeviceView) (reply : Reply) → HasErrand c.device cdb l more → has_room c.state n ≡ true → HasNumber c → is_left (judged_at c n cdb bytes).2.sense ≡ true
      → (v, r) ≡ recorded c n (act_of (commands_of c.device) cdb bytes) (record (judged_at c n cdb bytes).0 { device = device }, (judged_at c n cdb bytes).1, reply) → Ends c v n cdb bytes r device reply
  ends_by l more device reply route room number left unit =
      let j = judged_at c n cdb bytes in
      let o = opens c.device c.state n cdb bytes route.errand (decoded_command (commands_of c.device) cdb bytes) (act_of (commands_of c.device) cdb bytes) j.0 j.1 j.2 route.changer route.decodes room refl refl refl left in
      record {
        room = room;
        number = number;
        left = left;
        decision = j.1;
        found = refl;
        present = o.present;
        ways = λ other is. subst (HasWays c.device) (some_is route.errand other (sym route.is ∙ is)) o.ways;
        unit = unit ∙ ap (λ (p : JudgedUnit). recorded c n (act_of (commands_of c.device) cdb bytes) (record p { device = device }, j.1, reply)) o.present;
      }

  became_left : (l : ℕ) (more : List ℕ) (carried now : Result (DeviceView × A) Condition) → carried ≡ now → HasErrand c.device cdb l more → has_room c.state n ≡ true → HasNumber c → is_left (judged_at c n cdb bytes).2.sense ≡ true
      → ((v, r), after) ≡ ended c n cdb bytes drives (judged_at c n cdb bytes) now → Became c v n cdb bytes r drives after carried
  became_left l more carried (Ok it) is route room number left e =
      inr (inr (record {
        device = it.0;
        is = is ∙ ap (λ (a : A). carried_to it.0 a) (sym (ap (λ (x : (UnitView × Reply) × A). x.1) e));
        ends = ends_by l more it.0 (good []) route room number left (ap (λ (x : (UnitView × Reply) × A). x.0) e);
      }))
  became_left l more carried (Err condition) is route room number left e =
      let j = judged_at c n cdb bytes in
      let o = opens c.device c.state n cdb bytes route.errand (decoded_command (commands_of c.device) cdb bytes) (act_of (commands_of c.device) cdb bytes) j.0 j.1 j.2 route.changer route.decodes room refl refl refl left in
      inr (inl (record {
        condition = condition;
        refused = is;
        ends = ends_by l more c.device (check condition) route room number left
            (ap (λ (x : (UnitView × Reply) × A). x.0) e ∙ ap (λ (d : DeviceView). recorded c n (act_of (commands_of c.device) cdb bytes) (record j.0 { device = d }, j.1, check condition)) (ap (λ (p : JudgedUnit). p.device) o.present));
        drives_stay = ap (λ (x : (UnitView × Reply) × A). x.1) e;
      }))

  became_by : (l : ℕ) (more : List ℕ) (b : Bool) (carried : Result (DeviceView × A) Condition) → is_left (judged_at c n cdb bytes).2.sense ≡ b → HasErrand c.device cdb l more → has_room c.state n ≡ true → HasNumber c
      → ((v, r), after) ≡ concluded_by b (recorded c n (act_of (commands_of c.device) cdb bytes) (judged_at c n cdb bytes), drives) (ended c n cdb bytes drives (judged_at c n cdb bytes) carried) → Became c v n cdb bytes r drives after carried
  became_by l more true carried left route room number e = became_left l more carried carried refl route room number left e
  became_by l more false carried left route room number e =
      inl (inr (room, number, ap (λ (x : (UnitView × Reply) × A). x.0) e), ap (λ (x : (UnitView × Reply) × A). x.1) e, λ free. left)

  pub became : (l : ℕ) (more : List ℕ) (carried : Result (DeviceView × A) Condition) → named (commands_of c.device) (drives_of c.device) cdb ≡ l ∷ more → has_room c.state n ≡ true → HasNumber c
      → ((v, r), after) ≡ concluded c n cdb bytes drives (judged_at c n cdb bytes) carried → Became c v n cdb bytes r drives after carried
  became l more carried names room number e = became_by l more (is_left (judged_at c n cdb bytes).2.sense) carried refl (has_errand c.device cdb l more names) room number e

  pub became_busy : (carried : Result (DeviceView × A) Condition) → ◌≡◌ {A = (UnitView × Reply) × A} ((v, r), after) ((c, busy), drives) → Became c v n cdb bytes r drives after carried
  became_busy carried e =
      inl (inl (ap (λ (x : (UnitView × Reply) × A). x.0) e), ap (λ (x : (UnitView × Reply) × A). x.1) e, λ free. absurd (free (ap (λ (x : (UnitView × Reply) × A). x.0.1.status) e)))

pub one_became : (c d v e : UnitView) (n : Nexus) (cdb bytes : List ℕ) (r : Reply) (l : ℕ) (more : List ℕ) → named (commands_of c.device) (drives_of c.device) cdb ≡ l ∷ more → MovesOne c d n cdb bytes ((v, r), e)
    → Became c v n cdb bytes r d e (carried_one c.device d (errand_at c cdb))
one_became c d v e n cdb bytes r l more names (inl is) = became_busy c v n cdb bytes r d e (carried_one c.device d (errand_at c cdb)) is
one_became c d v e n cdb bytes r l more names (inr h) = became c v n cdb bytes r d e l more (carried_one c.device d (errand_at c cdb)) names h.0 h.1 h.3

pub two_became : (c v : UnitView) (ds es : TwoDrives) (n : Nexus) (cdb bytes : List ℕ) (r : Reply) (l : ℕ) (more : List ℕ) → named (commands_of c.device) (drives_of c.device) cdb ≡ l ∷ more → MovesTwo c ds n cdb bytes ((v, r), es)
    → Became c v n cdb bytes r ds es (carried_two c.device ds (errand_at c cdb))
two_became c v ds es n cdb bytes r l more names (inl is) = became_busy c v n cdb bytes r ds es (carried_two c.device ds (errand_at c cdb)) is
two_became c v ds es n cdb bytes r l more names (inr h) = became c v n cdb bytes r ds es l more (carried_two c.device ds (errand_at c cdb)) names h.0 h.1 h.3
