-- A relation of two units with room for the one where there was room for the other: it is kept along a run too.
use Rattle.std.proofs.Common.{◌≡◌, ◌≢◌, ℕ, ◌+◌, T, Bool, true, false, List, Result, Ok, Err, inl, inr, refl, sym, ap, ◌∙◌, subst, arith}
use Rattle.std.specs.FinMap.{is_sorted}
use Rattle.scsi_nexus.specs.declared.nexus.Nexus.{Nexus}
use Rattle.scsi_nexus.specs.Order.{nexus_cmp}
use Rattle.scsi_sense.specs.declared.condition.Condition.{Condition}
use Rattle.scsi_sense.specs.declared.status.Status.TheVariants.{Busy}
use Rattle.unit_attention.specs.declared.kind.Kind.TheVariants.{MediumChanged}
use Rattle.unit_attention.specs.Queues.{has_slot}
use Rattle.tape_medium.specs.declared.volume.Volume.{Volume}
use Rattle.device_server.specs.View.{DeviceView}
use Rattle.judgement.specs.declared.reply.Reply.{Reply}
use Rattle.judgement.specs.UnitStateView.{UnitStateView}
use Rattle.logical_unit.specs.Medium.{taken_out, put_in}
use Rattle.logical_unit.specs.Step.{Executes, IsLost, IsReset, answered}
use Rattle.logical_unit.specs.UnitView.{UnitView, last_number}
use Rattle.logical_unit.specs.declared.medium_fault.MediumFault.{MediumFault}
use Rattle.logical_unit.proofs.Halves.{is_out, is_in}
use Rattle.protected_span.specs.Struck.{SameReply}
use Rattle.protected_span.proofs.KeptByEachStep.{KeepsMoves, IsKeptAlong}
use Rattle.protected_span.proofs.Carry.{Same, With}
use Rattle.protected_span.proofs.Ended.{Ended, ended_kept}
use Rattle.protected_span.proofs.RoomOfStruckRuns.{Roomy, strike_roomy, keep_roomy, lose_roomy, reset_roomy, had_room, shaped, one_more}
use Rattle.protected_span.proofs.Shape.{Shape, shape_self, told_all-shape}
use Rattle.protected_span.proofs.Units.{answers, loss_is, reset_is}

-- another's command, answered or BUSY
struck_roomy : (f v g : UnitView) (n : Nexus) (cdb bytes : List ℕ) (r : Reply) → Roomy f g → Executes f n cdb bytes (v, r) → Roomy v g
struck_roomy f v g n cdb bytes r h (inl e) = subst (λ (x : UnitView). Roomy x g) (sym (ap (λ (x : UnitView × Reply). x.0) e)) h
struck_roomy f v g n cdb bytes r h (inr e) = subst (λ (x : UnitView). Roomy x g) (sym (ap (λ (x : UnitView × Reply). x.0) e.2)) (strike_roomy f g n cdb bytes e.0 h)

kept_roomy : (f v g w : UnitView) (n : Nexus) (cdb bytes : List ℕ) (r q : Reply) → has_slot g.state.slots n ≡ has_slot f.state.slots n → Roomy f g → r.status ≢ Busy → q.status ≢ Busy → Executes f n cdb bytes (v, r) → Executes g n cdb bytes (w, q) → Roomy v w
kept_roomy f v g w n cdb bytes r q same h free loose e d =
    let a = ap (λ (x : UnitView × Reply). x.0) (answers f v n cdb bytes r free e) in
    let b = ap (λ (x : UnitView × Reply). x.0) (answers g w n cdb bytes q loose d) in
    subst (λ (x : UnitView). Roomy x w) (sym a) (subst (λ (x : UnitView). Roomy (answered f n cdb bytes).0 x) (sym b) (keep_roomy f g n cdb bytes (had_room f v n cdb bytes r free e).0 same h))

-- room is read off the slots and the last number alone
same_room : (f g v w : UnitView) → v.state.slots ≡ f.state.slots → w.state.slots ≡ g.state.slots → last_number v ≡ last_number f → last_number w ≡ last_number g → Roomy f g → Roomy v w
same_room f g v w a b i j h =
    shaped f v g w h (subst (Shape f.state.slots) (sym a) (shape_self f.state.slots h.left)) (subst (Shape g.state.slots) (sym b) (shape_self g.state.slots h.right)) (let n = h.number in omega (arith, i, j, n))

-- a move ends with the slots and the number of an answer
ended_number : {A : Type 0} (c v : UnitView) (n : Nexus) (cdb bytes : List ℕ) (r : Reply) (drives after : A) (carried : Result (DeviceView × A) Condition) → Ended c v n cdb bytes r drives after carried → last_number v ≡ last_number (answered c n cdb bytes).0
ended_number c v n cdb bytes r drives after carried e = ap (λ (x : UnitView × Reply). last_number x.0) e.unit ∙ one_more c.base.last c.records _ ∙ sym (one_more c.base.last c.records _)

pub ended_roomy : {A : Type 0} (f v g w : UnitView) (n : Nexus) (cdb bytes : List ℕ) (r q : Reply) (drives after other : A) (x y : Result (DeviceView × A) Condition) → has_slot g.state.slots n ≡ has_slot f.state.slots n → Roomy f g
    → Ended f v n cdb bytes r drives after x → Ended g w n cdb bytes q drives other y → Roomy v w
ended_roomy f v g w n cdb bytes r q drives after other x y same h e d =
    same_room (answered f n cdb bytes).0 (answered g n cdb bytes).0 v w
    (ap (λ (k : UnitStateView). k.slots) (ended_kept f v n cdb bytes r drives after x e)) (ap (λ (k : UnitStateView). k.slots) (ended_kept g w n cdb bytes q drives other y d))
    (ended_number f v n cdb bytes r drives after x e) (ended_number g w n cdb bytes q drives other y d)
    (keep_roomy f g n cdb bytes e.room same h)

-- a volume that goes out, or comes in
pub out_number : (f v : UnitView) (volume : Volume) → taken_out f ≡ Ok (volume, v) → Shape f.state.slots f.state.slots → Shape f.state.slots v.state.slots × (last_number v ≡ last_number f + 1)
out_number f v volume e s =
    let o = is_out f v volume e in
    (subst (λ (x : UnitView). Shape f.state.slots x.state.slots) (sym o.unit) s, ap last_number o.unit ∙ one_more f.base.last f.records _)

pub in_number : (f v : UnitView) (volume : Volume) → put_in f volume ≡ Ok v → T (is_sorted nexus_cmp f.state.slots) → Shape f.state.slots v.state.slots × (last_number v ≡ last_number f + 1)
in_number f v volume e s =
    let o = is_in f v volume e in
    (subst (λ (x : UnitView). Shape f.state.slots x.state.slots) (sym o.unit) (told_all-shape f.state.slots MediumChanged s), ap last_number o.unit ∙ one_more f.base.last f.records _)

pub both_roomy : (f g v w : UnitView) → Roomy f g → Shape f.state.slots v.state.slots × (last_number v ≡ last_number f + 1) → Shape g.state.slots w.state.slots × (last_number w ≡ last_number g + 1) → Roomy v w
both_roomy f g v w h a b = shaped f v g w h a.0 b.0 (let n = h.number in let i = a.1 in let j = b.1 in omega (arith, n, i, j))

module _ (inside : Nexus → Bool) (exact : Nexus → (cdb bytes : List ℕ) → Bool) (Kept : UnitView → Type 0) (May : Nexus → (cdb bytes : List ℕ) → UnitView → UnitView → Type 0) (Rel : UnitView → UnitView → Type 0)
    (along : IsKeptAlong inside exact Kept May Rel) (slots : (f g : UnitView) (n : Nexus) → inside n ≡ true → Rel f g → has_slot g.state.slots n ≡ has_slot f.state.slots n) where
  pub record Roomed (f g : UnitView) : Type 0 where
    pub rel : Rel f g
    pub room : Roomy f g

  strike : (f v g : UnitView) (n : Nexus) (cdb bytes : List ℕ) (r : Reply) → inside n ≡ false → Roomed f g → Kept v → May n cdb bytes f v → Executes f n cdb bytes (v, r) → Roomed v g
  strike f v g n cdb bytes r isnt b state may e = record { rel = along.strike f v g n cdb bytes r isnt b.rel state may e; room = struck_roomy f v g n cdb bytes r b.room e }

  keep : (f v g w : UnitView) (n : Nexus) (cdb bytes : List ℕ) (r q : Reply) → inside n ≡ true → Roomed f g → Kept v → May n cdb bytes f v → r.status ≢ Busy → q.status ≢ Busy
      → Executes f n cdb bytes (v, r) → Executes g n cdb bytes (w, q) → Roomed v w × SameReply (exact n cdb bytes) false r q
  keep f v g w n cdb bytes r q is b state may free loose e d =
      let it = along.keep f v g w n cdb bytes r q is b.rel state may free loose e d in
      (record { rel = it.0; room = kept_roomy f v g w n cdb bytes r q (slots f g n is b.rel) b.room free loose e d }, it.1)

  lose : (f v g w : UnitView) (n : Nexus) (r q : Reply) → Roomed f g → Kept v → r.status ≢ Busy → q.status ≢ Busy → IsLost f n (v, r) → IsLost g n (w, q) → Roomed v w × SameReply true false r q
  lose f v g w n r q b state free loose e d =
      let it = along.lose f v g w n r q b.rel state free loose e d in
      (record { rel = it.0; room = lose_roomy f g v w n b.room (loss_is inside f v n r free e).0 (loss_is inside g w n q loose d).0 }, it.1)

  reset : (f v g w : UnitView) (r q : Reply) → Roomed f g → Kept v → r.status ≢ Busy → q.status ≢ Busy → IsReset f (v, r) → IsReset g (w, q) → Roomed v w × SameReply true false r q
  reset f v g w r q b state free loose e d =
      let it = along.reset f v g w r q b.rel state free loose e d in
      (record { rel = it.0; room = reset_roomy f g v w b.room (reset_is inside f v r free e).0 (reset_is inside g w q loose d).0 }, it.1)

  move : {A : Type 0} → KeepsMoves inside exact Kept May Rel A → KeepsMoves inside exact Kept May Roomed A
  move keeps f v g w n cdb bytes r q drives after other x y is b state may same_kind same e d =
      let it = keeps f v g w n cdb bytes r q drives after other x y is b.rel state may same_kind same e d in
      (record { rel = it.0; room = ended_roomy f v g w n cdb bytes r q drives after other x y (slots f g n is b.rel) b.room e d }, it.1, it.2)

  out_as : (f g : UnitView) (o p : Result (Volume × UnitView) MediumFault) → taken_out f ≡ o → taken_out g ≡ p → Roomed f g → Same (With Rel) o p → Same (With Roomed) o p
  out_as f g (Ok a) (Ok c) e d b h =
      (h.0, record { rel = h.1; room = both_roomy f g a.1 c.1 b.room (out_number f a.1 a.0 e (shape_self f.state.slots b.room.left)) (out_number g c.1 c.0 d (shape_self g.state.slots b.room.right)) })
  out_as f g (Err x) (Err y) e d b h = h
  out_as f g (Ok a) (Err y) e d b h = absurd h
  out_as f g (Err x) (Ok c) e d b h = absurd h

  in_as : (f g : UnitView) (v : Volume) (o p : Result UnitView MediumFault) → put_in f v ≡ o → put_in g v ≡ p → Roomed f g → Same Rel o p → Same Roomed o p
  in_as f g v (Ok a) (Ok c) e d b h = record { rel = h; room = both_roomy f g a c b.room (in_number f a v e b.room.left) (in_number g c v d b.room.right) }
  in_as f g v (Err x) (Err y) e d b h = h
  in_as f g v (Ok a) (Err y) e d b h = absurd h
  in_as f g v (Err x) (Ok c) e d b h = absurd h

  pub with_room : IsKeptAlong inside exact Kept May Roomed
  with_room = record {
    looks = λ f g b. along.looks f g b.rel;
    closed = λ f g n isnt b. along.closed f g n isnt b.rel;
    strike = strike;
    keep = keep;
    lose = lose;
    reset = reset;
    medium = record {
      out = λ f g b. out_as f g (taken_out f) (taken_out g) refl refl b (along.medium.out f g b.rel);
      comes = λ f g v b. in_as f g v (put_in f v) (put_in g v) refl refl b (along.medium.comes f g v b.rel);
    };
    move_one = move along.move_one;
    move_two = move along.move_two;
    sense = λ f v g n cdb bytes is b may. along.sense f v g n cdb bytes is b.rel may;
  }
