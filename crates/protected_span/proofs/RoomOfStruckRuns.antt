-- Where a run is served, so is the run without the struck commands: it has no more slots and no higher numbers.
use Rattle.std.proofs.Common.{◌≡◌, ◌≢◌, ℕ, ◌+◌, ◌≤◌, T, Bool, true, false, cond, not, ◌==◌, ◌||◌, List, [], ◌∷◌, ◌++◌, length, Option, Some, None, inl, inr, refl, sym, ap, ◌∙◌, subst, arith, length-append}
use Rattle.std.specs.FinMap.{is_sorted}
use Rattle.std.proofs.lemmas.Grind.{common_steps}
use Rattle.scsi_nexus.specs.declared.nexus.Nexus.{Nexus}
use Rattle.scsi_nexus.specs.Order.{nexus_cmp, same_nexus}
use Rattle.scsi_sense.specs.declared.status.Status.TheVariants.{Busy}
use Rattle.unit_attention.specs.declared.kind.Kind.TheVariants.{NexusLoss}
use Rattle.unit_attention.specs.Pending.{with_kind}
use Rattle.unit_attention.specs.Queues.{has_slot, contacted}
use Rattle.audit_log.specs.declared.record.Record.{Record}
use Rattle.device_server.specs.View.{commands_of}
use Rattle.judgement.specs.declared.reply.Reply.{Reply}
use Rattle.judgement.specs.Commands.{decoded_command}
use Rattle.judgement.specs.Replies.{busy}
use Rattle.logical_unit.specs.UnitView.{UnitView, last_number}
use Rattle.judgement.specs.UnitState.{has_room}
use Rattle.logical_unit.specs.Step.{contacted_present, Executes, answered, loses, resets, LosesAs, HasNumber, HasNumbers}
use Rattle.logical_unit.specs.Step.{IsLost, IsReset, event_reply, number_or_0}
use Rattle.protected_span.proofs.Units.{not_busy}
use Rattle.unit_attention.proofs.SlotOf.{has_slot-contacted, length-contacted, sorted-contacted}
use Rattle.protected_span.proofs.Shape.{Shape, change-shape, reset-shape, judged_shape}

-- g has no more slots than f, and no higher number
pub record Roomy (f g : UnitView) : Type 0 where
  pub left : T (is_sorted nexus_cmp f.state.slots)
  pub right : T (is_sorted nexus_cmp g.state.slots)
  pub few : length f.state.slots ≤ 128
  pub less : length g.state.slots ≤ length f.state.slots
  pub within : (m : Nexus) → has_slot g.state.slots m ≡ true → has_slot f.state.slots m ≡ true
  pub number : last_number g ≤ last_number f

-- a command's contact, record by record
pub answered_shape : (u : UnitView) (n : Nexus) (cdb bytes : List ℕ) → T (is_sorted nexus_cmp u.state.slots) → Shape (contacted u.state.slots n) (answered u n cdb bytes).0.state.slots
answered_shape u n cdb bytes s = judged_shape (contacted_present u n) n (sorted-contacted u.state.slots n s) (decoded_command (commands_of u.device) cdb bytes) bytes

pub one_more : (base : ℕ) (es : List Record) (e : Record) → base + length (es ++ e ∷ []) ≡ base + length es + 1
one_more base es e = let h = length-append es (e ∷ []) in omega (arith, h)

few_after : (b : Bool) (l k : ℕ) → l ≤ 128 → (b || not (l == 128)) ≡ true → k ≡ cond b l (l + 1) → k ≤ 128
few_after true l k few room e = omega arith
few_after false l k few room e = grind (arith, common_steps)

grows : (b : Bool) (l k : ℕ) → k ≡ cond b l (l + 1) → l ≤ k
grows true l k e = omega arith
grows false l k e = omega arith

less_after : (b : Bool) (l k i j : ℕ) → k ≤ l → i ≡ cond b l (l + 1) → j ≡ cond b k (k + 1) → j ≤ i
less_after true l k i j h e d = omega arith
less_after false l k i j h e d = omega arith

room_less : (b : Bool) (l k : ℕ) → k ≤ l → l ≤ 128 → (b || not (l == 128)) ≡ true → (b || not (k == 128)) ≡ true
room_less true l k h few room = refl
room_less false l k h few room = grind (arith, common_steps)

or_later : (a b c : Bool) → (b ≡ true → c ≡ true) → (a || b) ≡ true → (a || c) ≡ true
or_later true b c h e = refl
or_later false b c h e = h e

or_right : (a b : Bool) → b ≡ true → (a || b) ≡ true
or_right true b e = refl
or_right false b e = e

-- the room that a served command had
pub had_room : (u v : UnitView) (n : Nexus) (cdb bytes : List ℕ) (r : Reply) → r.status ≢ Busy → Executes u n cdb bytes (v, r) → (has_room u.state n ≡ true) × HasNumber u
had_room u v n cdb bytes r free (inl e) = absurd (not_busy r busy (ap (λ (x : UnitView × Reply). x.1) e) refl free)
had_room u v n cdb bytes r free (inr e) = (e.0, e.1)

count_of : (u : UnitView) (n : Nexus) (cdb bytes : List ℕ) → T (is_sorted nexus_cmp u.state.slots) → length (answered u n cdb bytes).0.state.slots ≡ cond (has_slot u.state.slots n) (length u.state.slots) (length u.state.slots + 1)
count_of u n cdb bytes s = (answered_shape u n cdb bytes s).count ∙ length-contacted u.state.slots n s

-- after a command to the one
pub strike_roomy : (f g : UnitView) (n : Nexus) (cdb bytes : List ℕ) → has_room f.state n ≡ true → Roomy f g → Roomy (answered f n cdb bytes).0 g
strike_roomy f g n cdb bytes room h =
    let s = answered_shape f n cdb bytes h.left in
    let count = count_of f n cdb bytes h.left in
    let more = grows (has_slot f.state.slots n) _ _ count in
    let number : last_number (answered f n cdb bytes).0 ≡ last_number f + 1 = one_more f.base.last f.records _ in
    record {
      left = s.sorted;
      right = h.right;
      few = few_after (has_slot f.state.slots n) _ _ h.few room count;
      less = omega (arith, h.less, more);
      within = λ m e. s.same m ∙ has_slot-contacted f.state.slots n m ∙ or_right (same_nexus m n) (has_slot f.state.slots m) (h.within m e);
      number = omega (arith, h.number, number);
    }

-- after one to both, of a nexus that has a slot at both or at neither
pub keep_roomy : (f g : UnitView) (n : Nexus) (cdb bytes : List ℕ) → has_room f.state n ≡ true → has_slot g.state.slots n ≡ has_slot f.state.slots n → Roomy f g → Roomy (answered f n cdb bytes).0 (answered g n cdb bytes).0
keep_roomy f g n cdb bytes room same h =
    let s = answered_shape f n cdb bytes h.left in
    let t = answered_shape g n cdb bytes h.right in
    let count = count_of f n cdb bytes h.left in
    let fewer : length (answered g n cdb bytes).0.state.slots ≡ cond (has_slot f.state.slots n) (length g.state.slots) (length g.state.slots + 1) = count_of g n cdb bytes h.right ∙ ap (λ b. cond b (length g.state.slots) (length g.state.slots + 1)) same in
    let number : last_number (answered f n cdb bytes).0 ≡ last_number f + 1 = one_more f.base.last f.records _ in
    let lower : last_number (answered g n cdb bytes).0 ≡ last_number g + 1 = one_more g.base.last g.records _ in
    record {
      left = s.sorted;
      right = t.sorted;
      few = few_after (has_slot f.state.slots n) _ _ h.few room count;
      less = less_after (has_slot f.state.slots n) _ _ _ _ h.less count fewer;
      within = λ m e. s.same m ∙ has_slot-contacted f.state.slots n m ∙ or_later (same_nexus m n) (has_slot g.state.slots m) (has_slot f.state.slots m) (h.within m) (sym (has_slot-contacted g.state.slots n m) ∙ sym (t.same m) ∙ e);
      number = omega (arith, h.number, number, lower);
    }

-- what had room and a number at the one has them at the other
pub room_too : (f g : UnitView) (n : Nexus) → has_slot g.state.slots n ≡ has_slot f.state.slots n → Roomy f g → has_room f.state n ≡ true → has_room g.state n ≡ true
room_too f g n same h room = ap (λ b. b || not (length g.state.slots == 128)) same ∙ room_less (has_slot f.state.slots n) (length f.state.slots) (length g.state.slots) h.less h.few room

pub number_too : (f g : UnitView) → Roomy f g → HasNumber f → HasNumber g
number_too f g h number = omega (arith, h.number, number)

pub numbers_too : (f g : UnitView) (count : ℕ) → Roomy f g → HasNumbers f count → HasNumbers g count
numbers_too f g count h number = omega (arith, h.number, number)

-- so what was served at the one may be served at the other
pub serve_command : (f v g : UnitView) (n : Nexus) (cdb bytes : List ℕ) (r : Reply) → has_slot g.state.slots n ≡ has_slot f.state.slots n → Roomy f g → r.status ≢ Busy → Executes f n cdb bytes (v, r) → Executes g n cdb bytes (answered g n cdb bytes)
serve_command f v g n cdb bytes r same h free e =
    let had = had_room f v n cdb bytes r free e in
    inr (room_too f g n same h had.0, number_too f g h had.1, refl)

-- A LOSS
loss_room : (known : Bool) (u v : UnitView) (n : Nexus) (k : Option ℕ) → LosesAs known u n (v, k) → known ≡ true → HasNumber u
loss_room true u v n k e is = e.0
loss_room false u v n k e is = cc

had_loss : (u v : UnitView) (n : Nexus) (r : Reply) → r.status ≢ Busy → IsLost u n (v, r) → has_slot u.state.slots n ≡ true → HasNumber u
had_loss u v n r free (inl e) is = absurd (not_busy r busy (ap (λ (x : UnitView × Reply). x.1) e.0) refl free)
had_loss u v n r free (inr e) is = loss_room (has_slot u.state.slots n) u v n e.0 e.1 is

done_served : (k : ℕ) → (event_reply k).status ≢ Busy
done_served k e = cc

pub record Served (Does : UnitView × Reply → Type 0) : Type 0 where
  pub unit : UnitView
  pub reply : Reply
  pub step : Does (unit, reply)
  pub served : reply.status ≢ Busy

lose_as : (known : Bool) (g : UnitView) (n : Nexus) → (known ≡ true → HasNumber g) → (w : UnitView) × (k : Option ℕ) × LosesAs known g n (w, k)
lose_as true g n room = (loses g n, Some (last_number g + 1), (room refl, refl))
lose_as false g n room = (g, None, refl)

pub serve_loss : (f v g : UnitView) (n : Nexus) (r : Reply) → Roomy f g → r.status ≢ Busy → IsLost f n (v, r) → Served (IsLost g n)
serve_loss f v g n r h free e =
    let room : has_slot g.state.slots n ≡ true → HasNumber g = λ is. (let had = had_loss f v n r free e (h.within n is) in omega (arith, h.number, had)) in
    let w = lose_as (has_slot g.state.slots n) g n room in
    record { unit = w.0; reply = event_reply (number_or_0 w.1); step = inr (w.1, w.2, refl); served = done_served (number_or_0 w.1) }

lost_shape : (known : Bool) (u : UnitView) (n : Nexus) → T (is_sorted nexus_cmp u.state.slots) → Shape u.state.slots (cond known (loses u n) u).state.slots
lost_shape true u n s = change-shape u.state.slots n (λ ks. with_kind ks NexusLoss) s
lost_shape false u n s = record { sorted = s; count = refl; same = λ m. refl }

lost_number : (known : Bool) (u : UnitView) (n : Nexus) → last_number (cond known (loses u n) u) ≡ cond known (last_number u + 1) (last_number u)
lost_number true u n = one_more u.base.last u.records _
lost_number false u n = refl

numbers_after : (a b : Bool) (l k i j : ℕ) → k ≤ l → (b ≡ true → a ≡ true) → i ≡ cond a (l + 1) l → j ≡ cond b (k + 1) k → j ≤ i
numbers_after true true l k i j h w e d = omega arith
numbers_after true false l k i j h w e d = omega arith
numbers_after false true l k i j h w e d = let x : false ≡ true = w refl in cc
numbers_after false false l k i j h w e d = omega arith

pub shaped : (f f' g g' : UnitView) → Roomy f g → Shape f.state.slots f'.state.slots → Shape g.state.slots g'.state.slots → last_number g' ≤ last_number f' → Roomy f' g'
shaped f f' g g' h s t number = record {
  left = s.sorted;
  right = t.sorted;
  few = (let a = s.count in omega (arith, a, h.few));
  less = (let a = s.count in let b = t.count in omega (arith, a, b, h.less));
  within = λ m e. s.same m ∙ h.within m (sym (t.same m) ∙ e);
  number = number;
}

-- after a loss, at both
pub lose_roomy : (f g v w : UnitView) (n : Nexus) → Roomy f g → v ≡ cond (has_slot f.state.slots n) (loses f n) f → w ≡ cond (has_slot g.state.slots n) (loses g n) g → Roomy v w
lose_roomy f g v w n h e d =
    subst (λ (x : UnitView). Roomy x w) (sym e) (subst (λ (x : UnitView). Roomy (cond (has_slot f.state.slots n) (loses f n) f) x) (sym d)
    (shaped f _ g _ h (lost_shape (has_slot f.state.slots n) f n h.left) (lost_shape (has_slot g.state.slots n) g n h.right)
    (numbers_after (has_slot f.state.slots n) (has_slot g.state.slots n) (last_number f) (last_number g) _ _ h.number (h.within n) (lost_number (has_slot f.state.slots n) f n) (lost_number (has_slot g.state.slots n) g n))))

-- A RESET
had_reset : (u v : UnitView) (r : Reply) → r.status ≢ Busy → IsReset u (v, r) → HasNumber u
had_reset u v r free (inl e) = absurd (not_busy r busy (ap (λ (x : UnitView × Reply). x.1) e) refl free)
had_reset u v r free (inr e) = e.1.0

pub serve_reset : (f v g : UnitView) (r : Reply) → Roomy f g → r.status ≢ Busy → IsReset f (v, r) → Served (IsReset g)
serve_reset f v g r h free e =
    let had = had_reset f v r free e in
    record { unit = resets g; reply = event_reply (last_number g + 1); step = inr (last_number g + 1, (omega (arith, h.number, had), refl), refl); served = done_served (last_number g + 1) }

pub reset_roomy : (f g v w : UnitView) → Roomy f g → v ≡ resets f → w ≡ resets g → Roomy v w
reset_roomy f g v w h e d =
    let a : last_number (resets f) ≡ last_number f + 1 = one_more f.base.last f.records _ in
    let b : last_number (resets g) ≡ last_number g + 1 = one_more g.base.last g.records _ in
    subst (λ (x : UnitView). Roomy x w) (sym e) (subst (λ (x : UnitView). Roomy (resets f) x) (sym d)
    (shaped f (resets f) g (resets g) h (reset-shape f.state.slots h.left) (reset-shape g.state.slots h.right) (omega (arith, a, b, h.number))))

-- a run's first state beside itself
pub roomy_self : (u : UnitView) → T (is_sorted nexus_cmp u.state.slots) → length u.state.slots ≤ 128 → Roomy u u
roomy_self u s few = record { left = s; right = s; few = few; less = omega arith; within = λ m e. e; number = omega arith }
