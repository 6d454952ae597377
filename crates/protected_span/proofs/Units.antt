-- One event at two units that look alike to those inside, or at one of them.
use Rattle.std.proofs.Common.{◌≡◌, ◌≢◌, ℕ, ◌+◌, Bool, true, false, cond, not, List, filter, Option, Result, Ok, Err, is_some, inl, inr, refl, sym, ap, ◌∙◌, subst}
use Rattle.std.specs.List.{list_all}
use Rattle.scsi_nexus.specs.declared.nexus.Nexus.{Nexus}
use Rattle.scsi_nexus.specs.Order.{same_nexus}
use Rattle.scsi_sense.specs.declared.condition.Condition.{Condition}
use Rattle.scsi_sense.specs.declared.status.Status.TheVariants.{Busy}
use Rattle.unit_attention.specs.declared.kind.Kind.TheVariants.{NexusLoss}
use Rattle.unit_attention.specs.Pending.{with_kind}
use Rattle.unit_attention.specs.Queues.{Slots, slot_of, has_slot, contacted}
use Rattle.permit_tables.specs.declared.out_params.OutParams.{OutParams}
use Rattle.pr_core.specs.State.{State, res_type, role}
use Rattle.pr_core.specs.Judge.{verdict}
use Rattle.pr_core.specs.Outcome.{applied}
use Rattle.pr_core.specs.declared.verdict.Verdict.TheVariants.{Allowed}
use Rattle.device_server.specs.View.{commands_of, reset_of}
use Rattle.judgement.specs.declared.command.Command.{Command}
use Rattle.judgement.specs.declared.decision.Decision.{Decision}
use Rattle.judgement.specs.declared.reply.Reply.{Reply}
use Rattle.judgement.specs.Commands.{decoded_command}
use Rattle.judgement.specs.Replies.{busy}
use Rattle.judgement.specs.UnitStateView.{UnitStateView}
use Rattle.judgement.specs.JudgedUnit.{JudgedUnit}
use Rattle.logical_unit.specs.UnitView.{UnitView, last_number}
use Rattle.judgement.specs.Readings.{verdict_of}
use Rattle.judgement.specs.Judge.{judged}
use Rattle.judgement.specs.Judge.{judged_as}
use Rattle.audit_log.specs.declared.act.Act.{Act}
use Rattle.logical_unit.specs.Move.{judged_at}
use Rattle.logical_unit.specs.Step.{recorded, contacted_present, Executes, answered, loses, resets, LosesAs}
use Rattle.logical_unit.specs.Step.{IsLost, IsReset, event_reply, number_or_0}
use Rattle.protected_span.specs.Struck.{SameReply}
use Rattle.protected_span.proofs.InsidersView.{Alike, Says}
use Rattle.unit_attention.proofs.SlotOf.{contact-apart, contact-alike, change-apart, change-alike, reset-alike}
use Rattle.logical_unit.proofs.OutsiderLeavesContents.{Shut}
use Rattle.protected_span.proofs.Outsider.{Left, Calm, apart, allowed_apart, judged_leaves}
use Rattle.protected_span.proofs.Insider.{Fit, Both, other, commanded_both, refused_both, own_filter}

-- a unit's present
abbrev pub present_of : UnitView → JudgedUnit
present_of u = record { device = u.device; state = u.state }

pub not_busy : (r q : Reply) → r ≡ q → q.status ≡ Busy → r.status ≢ Busy → ⊥
not_busy r q e f h = h (ap (λ (x : Reply). x.status) e ∙ f)

-- what isn't answered BUSY is answered
pub answers : (u v : UnitView) (n : Nexus) (cdb bytes : List ℕ) (r : Reply) → r.status ≢ Busy → Executes u n cdb bytes (v, r) → ◌≡◌ {A = UnitView × Reply} (v, r) (answered u n cdb bytes)
answers u v n cdb bytes r free (inl e) = absurd (not_busy r busy (ap (λ (x : UnitView × Reply). x.1) e) refl free)
answers u v n cdb bytes r free (inr e) = e.2

module _ (inside : Nexus → Bool) where
  -- what looked alike before looks alike after what those inside don't see
  pub left_alike : (f f' g : UnitStateView) → Alike inside f g → f'.lun ≡ f.lun → f'.units ≡ f.units → f'.profile ≡ f.profile → ((m : Nexus) → inside m ≡ true → slot_of f'.slots m ≡ slot_of f.slots m) → f'.preventers ≡ f.preventers → Alike inside f' g
  left_alike f f' g a lun units profile slots preventers = record {
    lun = lun ∙ a.lun;
    units = units ∙ a.units;
    profile = profile ∙ a.profile;
    slots = λ m is. slots m is ∙ a.slots m is;
    preventers = preventers ∙ a.preventers;
    own = ap (list_all inside) preventers ∙ a.own;
  }

  pub alike-sym : (f g : UnitStateView) → Alike inside f g → Alike inside g f
  alike-sym f g a = record { lun = sym a.lun; units = sym a.units; profile = sym a.profile; slots = λ m is. sym (a.slots m is); preventers = sym a.preventers; own = ap (list_all inside) (sym a.preventers) ∙ a.own }

  -- THE STEP OF A NEXUS OUTSIDE, at one of the two
  pub strike_unit : (f f' : UnitView) (g : UnitView) (n : Nexus) (cdb bytes : List ℕ) (r : Reply) → f.device ≡ g.device → Alike inside f.state g.state → inside n ≡ false
      → Shut (res_type f.state.reservations) (role f.state.reservations n)
      → (P : State → Type 0) → ((p : OutParams) → verdict f.state.reservations n p ≡ Allowed → P (applied f.state.reservations n p) → Calm inside f.state.reservations n p) → P f'.state.reservations
      → Executes f n cdb bytes (f', r) → (f'.device ≡ g.device) × Alike inside f'.state g.state
  strike_unit f f' g n cdb bytes r device alike isnt shut P calm good (inl e) =
      let same : f' ≡ f = ap (λ (x : UnitView × Reply). x.0) e in
      (ap (λ (x : UnitView). x.device) same ∙ device, subst (λ (x : UnitView). Alike inside x.state g.state) (sym same) alike)
  strike_unit f f' g n cdb bytes r device alike isnt shut P calm good (inr e) =
      let u = contacted_present f n in
      let x = judged u n cdb bytes in
      let is : f' ≡ (answered f n cdb bytes).0 = ap (λ (y : UnitView × Reply). y.0) e.2 in
      let left : Left inside u x.0 = judged_leaves inside u n isnt shut alike.own P calm (decoded_command (commands_of f.device) cdb bytes) bytes (subst (λ (y : UnitView). P y.state.reservations) is good) in
      let state : Alike inside x.0.state g.state =
      left_alike f.state x.0.state g.state alike left.lun left.units left.profile (λ m within. left.slots m within ∙ contact-apart f.state.slots n m (apart inside m n within isnt)) left.preventers in
      (ap (λ (y : UnitView). y.device) is ∙ left.device ∙ device, subst (λ (y : UnitView). Alike inside y.state g.state) (sym is) state)

  says_reply : (exact : Bool) (x y : Reply) (a b : ℕ) → Says exact x y → SameReply exact false (record x { number = a }) (record y { number = b })
  says_reply true x y a b s = record { status = ap (λ (z : Reply). z.status) s; sense = ap (λ (z : Reply). z.sense) s; payload = λ e. ap (λ (z : Reply). z.payload) s; number = λ e. cc }
  says_reply false x y a b s = record { status = s.status; sense = s.sense; payload = λ e. cc; number = λ e. cc }

  -- what both units are after an event
  pub record Moved (R : State → State → Type 0) (exact : Bool) (f g : UnitView) (r q : Reply) : Type 0 where
    pub device : f.device ≡ g.device
    pub state : Alike inside f.state g.state
    pub reservations : R f.state.reservations g.state.reservations
    pub reply : SameReply exact false r q

  -- two answers that look alike, with no word of where they come from
  pub record Beside (P : State → Type 0) (R : State → State → Type 0) (exact : Bool) (x y : JudgedUnit × Decision × Reply) : Type 0 where
    pub device : x.0.device ≡ y.0.device
    pub state : Alike inside x.0.state y.0.state
    pub reply : Says exact x.2 y.2
    pub reservations : P x.0.state.reservations → R x.0.state.reservations y.0.state.reservations

  -- two units that such answers were recorded at
  pub moved : (f f' g g' : UnitView) (n : Nexus) (a b : Act) (x y : JudgedUnit × Decision × Reply) (r q : Reply) (R : State → State → Type 0) (exact : Bool) (P : State → Type 0) → P f'.state.reservations
      → ◌≡◌ {A = UnitView × Reply} (f', r) (recorded f n a x) → ◌≡◌ {A = UnitView × Reply} (g', q) (recorded g n b y) → Beside P R exact x y → Moved R exact f' g' r q
  moved f f' g g' n a b' x y r q R exact P good e d b =
      let reservations = b.reservations (subst P (ap (λ (z : UnitView × Reply). z.0.state.reservations) e) good) in
      record {
        device = ap (λ (z : UnitView × Reply). z.0.device) e ∙ b.device ∙ sym (ap (λ (z : UnitView × Reply). z.0.device) d);
        state = subst (λ (k : UnitStateView). Alike inside k g'.state) (sym (ap (λ (z : UnitView × Reply). z.0.state) e)) (subst (λ (k : UnitStateView). Alike inside x.0.state k) (sym (ap (λ (z : UnitView × Reply). z.0.state) d)) b.state);
        reservations = subst (λ (k : State). R k g'.state.reservations) (sym (ap (λ (z : UnitView × Reply). z.0.state.reservations) e)) (subst (λ (k : State). R x.0.state.reservations k) (sym (ap (λ (z : UnitView × Reply). z.0.state.reservations) d)) reservations);
        reply = subst (λ (z : Reply). SameReply exact false z q) (sym (ap (λ (z : UnitView × Reply). z.1) e)) (subst (λ (z : Reply). SameReply exact false (recorded f n a x).1 z) (sym (ap (λ (z : UnitView × Reply). z.1) d)) (says_reply exact x.2 y.2 (last_number f + 1) (last_number g + 1) b.reply));
      }

  judged_both : (f : JudgedUnit) (w : State) (s : Slots) (n : Nexus) (is : inside n ≡ true) (own : list_all inside f.state.preventers ≡ true) (slots : (m : Nexus) → inside m ≡ true → slot_of f.state.slots m ≡ slot_of s m)
      (P : State → Type 0) (R : State → State → Type 0) (related : R f.state.reservations w) (exact : Bool) (c : Result Command Condition) (bytes : List ℕ)
      → ((k : Command) → c ≡ Ok k → (verdict_of f.state.reservations n k ≡ verdict_of w n k) × Fit inside f w s n is own slots P R related exact k)
      → Both inside f w s n is own slots P R related exact (judged_as f n c bytes) (judged_as (other inside f w s n is own slots P R related exact) n c bytes)
  judged_both f w s n is own slots P R related exact (Err condition) bytes fits = refused_both inside f w s n is own slots P R related exact condition bytes
  judged_both f w s n is own slots P R related exact (Ok k) bytes fits =
      let it = fits k refl in
      commanded_both inside f w s n is own slots P R related exact k bytes it.0 it.1

  -- what a nexus inside has to do with two units: the check says the same of its command, and its act is taken alike
  abbrev pub Fits : (f g : UnitView) (n : Nexus) (cdb bytes : List ℕ) → Alike inside f.state g.state → inside n ≡ true → (P : State → Type 0) (R : State → State → Type 0) → R f.state.reservations g.state.reservations → (exact : Bool) → Type 0
  Fits f g n cdb bytes alike is P R related exact =
      (k : Command) → decoded_command (commands_of f.device) cdb bytes ≡ Ok k → (verdict_of f.state.reservations n k ≡ verdict_of g.state.reservations n k)
      × Fit inside (contacted_present f n) g.state.reservations (contacted g.state.slots n) n is alike.own (λ m within. contact-alike f.state.slots g.state.slots n m (alike.slots m within)) P R related exact k

  -- THE JUDGEMENT OF A NEXUS INSIDE, at both
  pub judged_beside : (f g : UnitView) (n : Nexus) (cdb bytes : List ℕ) → f.device ≡ g.device → (alike : Alike inside f.state g.state) (is : inside n ≡ true) (P : State → Type 0) (R : State → State → Type 0) (related : R f.state.reservations g.state.reservations) (exact : Bool)
      → Fits f g n cdb bytes alike is P R related exact → Beside P R exact (judged_at f n cdb bytes) (judged_at g n cdb bytes)
  judged_beside f g n cdb bytes device alike is P R related exact fits =
      let u = contacted_present f n in
      let slots : (m : Nexus) → inside m ≡ true → slot_of u.state.slots m ≡ slot_of (contacted g.state.slots n) m = λ m within. contact-alike f.state.slots g.state.slots n m (alike.slots m within) in
      let o = other inside u g.state.reservations (contacted g.state.slots n) n is alike.own slots P R related exact in
      let shape : contacted_present g n ≡ o =
      λ i. record { device = sym device i; state = record { lun = sym alike.lun i; units = sym alike.units i; profile = sym alike.profile i; reservations = g.state.reservations; slots = contacted g.state.slots n; preventers = sym alike.preventers i } } in
      let b = judged_both u g.state.reservations (contacted g.state.slots n) n is alike.own slots P R related exact (decoded_command (commands_of f.device) cdb bytes) bytes fits in
      subst (λ (x : JudgedUnit × Decision × Reply). Beside P R exact (judged u n cdb bytes) x) (sym (ap (λ (p : JudgedUnit). judged p n cdb bytes) shape)) (record { device = b.device; state = b.state; reply = b.reply; reservations = b.reservations })

  -- THE STEP OF A NEXUS INSIDE, at both
  pub both_units : (f f' g g' : UnitView) (n : Nexus) (cdb bytes : List ℕ) (r q : Reply) → f.device ≡ g.device → (alike : Alike inside f.state g.state) (is : inside n ≡ true)
      → (P : State → Type 0) (R : State → State → Type 0) (related : R f.state.reservations g.state.reservations) (exact : Bool)
      → Fits f g n cdb bytes alike is P R related exact
      → P f'.state.reservations → r.status ≢ Busy → Executes f n cdb bytes (f', r) → ◌≡◌ {A = UnitView × Reply} (g', q) (answered g n cdb bytes) → Moved R exact f' g' r q
  both_units f f' g g' n cdb bytes r q device alike is P R related exact fits good free e d =
      moved f f' g g' n _ _ _ _ r q R exact P good (answers f f' n cdb bytes r free e) d (judged_beside f g n cdb bytes device alike is P R related exact fits)

  -- A LOSS. Of a nexus with a slot, or without
  lost_as : (known : Bool) → UnitView → Nexus → UnitView
  lost_as known u n = cond known (loses u n) u

  pub loss_known : (known : Bool) (u v : UnitView) (n : Nexus) (k : Option ℕ) → LosesAs known u n (v, k) → v ≡ cond known (loses u n) u
  loss_known true u v n k e = ap (λ (x : UnitView × Option ℕ). x.0) e.1
  loss_known false u v n k e = ap (λ (x : UnitView × Option ℕ). x.0) e

  -- a loss that isn't BUSY is GOOD
  pub record IsDone (r : Reply) : Type 0 where
    pub number : ℕ
    pub is : r ≡ event_reply number

  pub loss_is : (u v : UnitView) (n : Nexus) (r : Reply) → r.status ≢ Busy → IsLost u n (v, r) → (v ≡ cond (has_slot u.state.slots n) (loses u n) u) × IsDone r
  loss_is u v n r free (inl e) = absurd (not_busy r busy (ap (λ (x : UnitView × Reply). x.1) e.0) refl free)
  loss_is u v n r free (inr e) = (loss_known (has_slot u.state.slots n) u v n e.0 e.1, record { number = number_or_0 e.0; is = e.2 })

  done_same : (r q : Reply) → IsDone r → IsDone q → SameReply true false r q
  done_same r q a b = record {
    status = ap (λ (x : Reply). x.status) a.is ∙ sym (ap (λ (x : Reply). x.status) b.is);
    sense = ap (λ (x : Reply). x.sense) a.is ∙ sym (ap (λ (x : Reply). x.sense) b.is);
    payload = λ e. ap (λ (x : Reply). x.payload) a.is ∙ sym (ap (λ (x : Reply). x.payload) b.is);
    number = λ e. cc;
  }

  -- what a loss of a nexus outside leaves
  lost_left : (f : UnitStateView) (u : UnitView) (n : Nexus) (known : Bool) → u.state ≡ f → inside n ≡ false → list_all inside f.preventers ≡ true → Alike inside (cond known (loses u n) u).state f
  lost_left f u n false e isnt own = subst (λ (k : UnitStateView). Alike inside u.state k) e (record { lun = refl; units = refl; profile = refl; slots = λ m is. refl; preventers = refl; own = ap (λ (k : UnitStateView). list_all inside k.preventers) e ∙ own })
  lost_left f u n true e isnt own =
      let mine : list_all inside u.state.preventers ≡ true = ap (λ (k : UnitStateView). list_all inside k.preventers) e ∙ own in
      let ends = allowed_apart inside u.state.preventers n isnt mine in
      subst (λ (k : UnitStateView). Alike inside (loses u n).state k) e (record {
        lun = refl;
        units = refl;
        profile = refl;
        slots = λ m is. change-apart u.state.slots n m (λ ks. with_kind ks NexusLoss) (apart inside m n is isnt);
        preventers = ends;
        own = ap (list_all inside) ends ∙ mine;
      })

  -- the loss of a nexus inside, at both
  lost_both : (f g : UnitView) (n : Nexus) (known : Bool) → Alike inside f.state g.state → Alike inside (cond known (loses f n) f).state (cond known (loses g n) g).state
  lost_both f g n false a = a
  lost_both f g n true a = record {
    lun = a.lun;
    units = a.units;
    profile = a.profile;
    slots = λ m is. change-alike f.state.slots g.state.slots n m (λ ks. with_kind ks NexusLoss) (a.slots m is);
    preventers = ap (filter (λ p. not (same_nexus p n))) a.preventers;
    own = own_filter inside (λ p. not (same_nexus p n)) f.state.preventers a.own;
  }

  pub alike_trans : (f g k : UnitStateView) → Alike inside f g → Alike inside g k → Alike inside f k
  alike_trans f g k a b = record { lun = a.lun ∙ b.lun; units = a.units ∙ b.units; profile = a.profile ∙ b.profile; slots = λ m is. a.slots m is ∙ b.slots m is; preventers = a.preventers ∙ b.preventers; own = a.own }

  lost_alike : (f g : UnitView) (n : Nexus) → Alike inside f.state g.state → Alike inside (cond (has_slot f.state.slots n) (loses f n) f).state (cond (has_slot g.state.slots n) (loses g n) g).state
  lost_alike f g n a =
      elim (inside n) as (λ b. inside n ≡ b → Alike inside (cond (has_slot f.state.slots n) (loses f n) f).state (cond (has_slot g.state.slots n) (loses g n) g).state) [
        | true ↦ λ is. subst (λ b. Alike inside (cond (has_slot f.state.slots n) (loses f n) f).state (cond b (loses g n) g).state) (ap is_some (a.slots n is)) (lost_both f g n (has_slot f.state.slots n) a)
        | false ↦ λ isnt.
            let own = ap (list_all inside) (sym a.preventers) ∙ a.own in
            let left = lost_left f.state f n (has_slot f.state.slots n) refl isnt a.own in
            let right = lost_left g.state g n (has_slot g.state.slots n) refl isnt own in
            alike_trans _ _ _ left (alike_trans _ _ _ a (alike-sym _ _ right))
      ] refl

  pub lost_device : (u : UnitView) (n : Nexus) (known : Bool) → (cond known (loses u n) u).device ≡ u.device
  lost_device u n true = refl
  lost_device u n false = refl

  pub lost_reservations : (u : UnitView) (n : Nexus) (known : Bool) → (cond known (loses u n) u).state.reservations ≡ u.state.reservations
  lost_reservations u n true = refl
  lost_reservations u n false = refl

  pub loss_units : (f f' g g' : UnitView) (n : Nexus) (r q : Reply) → f.device ≡ g.device → Alike inside f.state g.state → (R : State → State → Type 0) → R f.state.reservations g.state.reservations
      → r.status ≢ Busy → q.status ≢ Busy → IsLost f n (f', r) → IsLost g n (g', q) → Moved R true f' g' r q
  loss_units f f' g g' n r q device a R related free loose e d =
      let x = loss_is f f' n r free e in
      let y = loss_is g g' n q loose d in
      let fx = cond (has_slot f.state.slots n) (loses f n) f in
      let gy = cond (has_slot g.state.slots n) (loses g n) g in
      record {
        device = ap (λ (u : UnitView). u.device) x.0 ∙ lost_device f n (has_slot f.state.slots n) ∙ device ∙ sym (lost_device g n (has_slot g.state.slots n)) ∙ sym (ap (λ (u : UnitView). u.device) y.0);
        state = subst (λ (u : UnitView). Alike inside u.state g'.state) (sym x.0) (subst (λ (u : UnitView). Alike inside fx.state u.state) (sym y.0) (lost_alike f g n a));
        reservations = subst (λ (w : State). R w g'.state.reservations) (sym (ap (λ (u : UnitView). u.state.reservations) x.0 ∙ lost_reservations f n (has_slot f.state.slots n)))
            (subst (λ (w : State). R f.state.reservations w) (sym (ap (λ (u : UnitView). u.state.reservations) y.0 ∙ lost_reservations g n (has_slot g.state.slots n))) related);
        reply = done_same r q x.1 y.1;
      }

  -- A RESET
  pub reset_is : (u v : UnitView) (r : Reply) → r.status ≢ Busy → IsReset u (v, r) → (v ≡ resets u) × IsDone r
  reset_is u v r free (inl e) = absurd (not_busy r busy (ap (λ (x : UnitView × Reply). x.1) e) refl free)
  reset_is u v r free (inr e) = (ap (λ (x : UnitView × ℕ). x.0) e.1.1, record { number = e.0; is = e.2 })

  pub reset_units : (f f' g g' : UnitView) (r q : Reply) → f.device ≡ g.device → Alike inside f.state g.state → (R : State → State → Type 0) → R f.state.reservations g.state.reservations
      → r.status ≢ Busy → q.status ≢ Busy → IsReset f (f', r) → IsReset g (g', q) → Moved R true f' g' r q
  reset_units f f' g g' r q device a R related free loose e d =
      let x = reset_is f f' r free e in
      let y = reset_is g g' q loose d in
      record {
        device = ap (λ (u : UnitView). u.device) x.0 ∙ ap reset_of device ∙ sym (ap (λ (u : UnitView). u.device) y.0);
        state = subst (λ (u : UnitView). Alike inside u.state g'.state) (sym x.0) (subst (λ (u : UnitView). Alike inside (resets f).state u.state) (sym y.0) (record {
          lun = a.lun;
          units = a.units;
          profile = a.profile;
          slots = λ m is. reset-alike f.state.slots g.state.slots m (a.slots m is);
          preventers = refl;
          own = refl;
        }));
        reservations = subst (λ (u : UnitView). R u.state.reservations g'.state.reservations) (sym x.0) (subst (λ (u : UnitView). R f.state.reservations u.state.reservations) (sym y.0) related);
        reply = done_same r q x.1 y.1;
      }
