-- Along a run: the commands of nexuses outside to one unit struck out.
use Rattle.std.proofs.Common.{◌≡◌, ◌≢◌, ℕ, zero, suc, Bool, true, false, cond, not, ◌==◌, ◌&&◌, List, [], ◌∷◌, Option, Some, None, inl, inr, refl, sym, ap, ◌∙◌, subst}
use Rattle.std.specs.Prelude.{slice_get, slice_set, if◌then◌else◌}
use Rattle.std.proofs.lemmas.Map.Views.{exact_unsigned_eq}
use Rattle.scsi_nexus.specs.declared.nexus.Nexus.{Nexus}
use Rattle.scsi_sense.specs.declared.status.Status.TheVariants.{Busy}
use Rattle.device_server.specs.View.{DeviceView, commands_of, drives_of}
use Rattle.judgement.specs.declared.reply.Reply.{Reply}
use Rattle.judgement.specs.Replies.{AnswersAbsent, absent_answer, busy}
use Rattle.unit_attention.specs.Queues.{has_slot}
use Rattle.logical_unit.specs.Route.{named}
use Rattle.logical_unit.specs.Step.{LosesAs, IsLost, IsReset, event_reply, number_or_0}
use Rattle.logical_unit.specs.UnitView.{UnitView}
use Rattle.target_core.specs.declared.event.Event.{Event}
use Rattle.target_core.specs.declared.event.Event.TheVariants as event
use Rattle.target_core.specs.Run.{CommandsNaming, CommandsAt, LosesAt, ResetsAt, Steps}
use Rattle.target_core.proofs.History.{get-set_same}
use Rattle.protected_span.specs.Struck.{SameReply}
use Rattle.protected_span.specs.Struck.{is_struck, struck, RunsThrough, IsServed, InSpan, is_at, is_exact, TellsNext, Tells}
use Rattle.protected_span.proofs.KeptByEachStep.{IsKeptAlong}
use Rattle.protected_span.proofs.Changer.{Stepped, Goes, reply_same, looks_at, alone_both, naming_both, alone_at}
use Rattle.protected_span.proofs.Places.{Lists, At, BothAt, at_place, set_at, one_here}
use Rattle.logical_unit.proofs.OutsiderLeavesContents.{barred}
use Rattle.protected_span.proofs.Units.{not_busy}

absent_is : (cdb : List ℕ) (r : Reply) → r.status ≢ Busy → AnswersAbsent cdb r → r ≡ absent_answer cdb
absent_is cdb r free (inl e) = absurd (not_busy r busy e.0 refl free)
absent_is cdb r free (inr e) = e

loss_one : (known : Bool) (w x y : UnitView) (n : Nexus) (a b : Option ℕ) → LosesAs known w n (x, a) → LosesAs known w n (y, b) → (x ≡ y) × (a ≡ b)
loss_one true w x y n a b e d = (ap (λ (z : UnitView × Option ℕ). z.0) (e.1 ∙ sym d.1), ap (λ (z : UnitView × Option ℕ). z.1) (e.1 ∙ sym d.1))
loss_one false w x y n a b e d = (ap (λ (z : UnitView × Option ℕ). z.0) (e ∙ sym d), ap (λ (z : UnitView × Option ℕ). z.1) (e ∙ sym d))

same_loss : (w x y : UnitView) (n : Nexus) (r q : Reply) → r.status ≢ Busy → q.status ≢ Busy → IsLost w n (x, r) → IsLost w n (y, q) → (x ≡ y) × (r ≡ q)
same_loss w x y n r q free loose (inl e) d = absurd (not_busy r busy (ap (λ (z : UnitView × Reply). z.1) e.0) refl free)
same_loss w x y n r q free loose (inr e) (inl d) = absurd (not_busy q busy (ap (λ (z : UnitView × Reply). z.1) d.0) refl loose)
same_loss w x y n r q free loose (inr e) (inr d) =
    let one = loss_one (has_slot w.state.slots n) w x y n e.0 d.0 e.1 d.1 in
    (one.0, e.2 ∙ ap (λ k. event_reply (number_or_0 k)) one.1 ∙ sym d.2)

same_reset : (w x y : UnitView) (r q : Reply) → r.status ≢ Busy → q.status ≢ Busy → IsReset w (x, r) → IsReset w (y, q) → (x ≡ y) × (r ≡ q)
same_reset w x y r q free loose (inl e) d = absurd (not_busy r busy (ap (λ (z : UnitView × Reply). z.1) e) refl free)
same_reset w x y r q free loose (inr e) (inl d) = absurd (not_busy q busy (ap (λ (z : UnitView × Reply). z.1) d) refl loose)
same_reset w x y r q free loose (inr e) (inr d) =
    let one = e.1.1 ∙ sym d.1.1 in
    (ap (λ (z : UnitView × ℕ). z.0) one, e.2 ∙ ap (λ (z : UnitView × ℕ). event_reply z.1) one ∙ sym d.2)

module _ (lun : ℕ) (inside : Nexus → Bool) (exact : Nexus → (cdb bytes : List ℕ) → Bool) (Kept : UnitView → Type 0) (May : Nexus → (cdb bytes : List ℕ) → UnitView → UnitView → Type 0) (Rel : UnitView → UnitView → Type 0)
    (along : IsKeptAlong inside exact Kept May Rel) where
  abbrev pub L : List UnitView → List UnitView → Type 0
  L us ws = Lists lun Rel us ws

  abbrev pub Both : (ms ns : List UnitView) (ex num : Bool) (r q : Reply) → Type 0
  Both ms ns ex num r q = Stepped lun inside exact Kept May Rel along ms ns ex num r q

  abbrev GoesOn : (us ms : List UnitView) (at : ℕ) → Nexus → (cdb bytes : List ℕ) → Type 0
  GoesOn us ms at n cdb bytes = Goes lun inside exact Kept May Rel along us ms at n cdb bytes

  -- no unit changed
  none_changed : (us ws ms ns : List UnitView) → L us ws → ms ≡ us → ns ≡ ws → L ms ns
  none_changed us ws ms ns l e d = subst (λ (xs : List UnitView). L xs ns) (sym e) (subst (L us) (sym d) l)

  -- one unit changed, in both
  one_changed : (us ws ms ns : List UnitView) (at : ℕ) (x y : UnitView) → L us ws → ms ≡ slice_set us at x → ns ≡ slice_set ws at y → At lun Rel at x y → L ms ns
  one_changed us ws ms ns at x y l i j a = subst (λ (zs : List UnitView). L zs ns) (sym i) (subst (λ (zs : List UnitView). L (slice_set us at x) zs) (sym j) (set_at lun Rel us ws at x y l a))

  -- A COMMAND
  command_both : (us ws ms ns : List UnitView) (at : ℕ) (o p : Option UnitView) (n : Nexus) (cdb bytes : List ℕ) (r q : Reply) → L us ws → slice_get us at ≡ o → slice_get ws at ≡ p → BothAt lun Rel at o p → ((at == lun) ≡ true → inside n ≡ true)
      → GoesOn us ms at n cdb bytes → r.status ≢ Busy → q.status ≢ Busy → CommandsAt us at o n cdb bytes (ms, r) → CommandsAt ws at p n cdb bytes (ns, q)
      → Both ms ns (if at == lun then exact n cdb bytes else true) (not (at == lun)) r q
  command_both us ws ms ns at None None n cdb bytes r q l here there both is goes free loose a b =
      record { lists = none_changed us ws ms ns l a.0 b.0; reply = reply_same _ _ r q (absent_is cdb r free a.1 ∙ sym (absent_is cdb q loose b.1)) }
  command_both us ws ms ns at None (Some y) n cdb bytes r q l here there both is goes free loose a b = absurd both
  command_both us ws ms ns at (Some x) None n cdb bytes r q l here there both is goes free loose a b = absurd both
  command_both us ws ms ns (suc k) (Some x) (Some y) n cdb bytes r q l here there both is goes free loose a b =
      alone_both lun inside exact Kept May Rel along us ws ms ns (suc k) x y n cdb bytes r q l here there is goes free loose a b
  command_both us ws ms ns zero (Some x) (Some y) n cdb bytes r q l here there both is goes free loose a b =
      naming_both lun inside exact Kept May Rel along us ws ms ns (named (commands_of x.device) (drives_of x.device) cdb) x y n cdb bytes r q l here there refl is goes free loose a
      (subst (λ (d : DeviceView). CommandsNaming ws y (named (commands_of d) (drives_of d) cdb) n cdb bytes (ns, q)) (sym (looks_at lun inside exact Kept May Rel along 0 x y both)) b)

  -- of a nexus outside, to the unit
  struck_command : (us ws ms : List UnitView) (n : Nexus) (at : ℕ) (cdb bytes : List ℕ) (r : Reply) → inside n ≡ false → (at == lun) ≡ true → L us ws
      → CommandsAt us at (slice_get us at) n cdb bytes (ms, r) → GoesOn us ms at n cdb bytes → L ms ws
  struck_command us ws ms n at cdb bytes r isnt here l step goes =
      let same : at ≡ lun = exact_unsigned_eq at lun here in
      let a = alone_at l.f n (along.closed l.f l.g n isnt l.related) us ms at cdb bytes r (subst (λ (o : Option UnitView). CommandsAt us at o n cdb bytes (ms, r)) (ap (slice_get us) same ∙ l.here) step) in
      let set : ms ≡ slice_set us lun a.unit = a.units ∙ ap (λ k. slice_set us k a.unit) same in
      let after : slice_get ms lun ≡ Some a.unit = ap (λ (xs : List UnitView). slice_get xs lun) set ∙ get-set_same us lun a.unit l.f l.here in
      let g = goes l.f a.unit l.here after in
      subst (λ (xs : List UnitView). L xs ws) (sym set) (one_here lun Rel us ws a.unit l (along.strike l.f a.unit l.g n cdb bytes r isnt l.related g.0 (g.1 here) a.step))

  -- A LOSS, AND A RESET
  loss_both : (us ws ms ns : List UnitView) (n : Nexus) (at : ℕ) (o p : Option UnitView) (r q : Reply) → L us ws → slice_get us at ≡ o → slice_get ws at ≡ p → BothAt lun Rel at o p → ((u v : UnitView) → slice_get us lun ≡ Some u → slice_get ms lun ≡ Some v → Kept v)
      → r.status ≢ Busy → q.status ≢ Busy → LosesAt us at o n (ms, r) → LosesAt ws at p n (ns, q) → Both ms ns true (not (at == lun)) r q
  loss_both us ws ms ns n at None None r q l here there both goes free loose a b = record {
    lists = none_changed us ws ms ns l (ap (λ (x : List UnitView × Reply). x.0) a) (ap (λ (x : List UnitView × Reply). x.0) b);
    reply = reply_same _ _ r q (ap (λ (x : List UnitView × Reply). x.1) a ∙ sym (ap (λ (x : List UnitView × Reply). x.1) b));
  }
  loss_both us ws ms ns n at None (Some y) r q l here there both goes free loose a b = absurd both
  loss_both us ws ms ns n at (Some x) None r q l here there both goes free loose a b = absurd both
  loss_both us ws ms ns n at (Some x) (Some y) r q l here there both goes free loose a b =
      elim (at == lun) as (λ t. (at == lun) ≡ t → Both ms ns true (not t) r q) [
        | true ↦ λ e.
            let same : at ≡ lun = exact_unsigned_eq at lun e in
            let after : slice_get ms lun ≡ Some a.unit = ap (λ (xs : List UnitView). slice_get xs lun) a.units ∙ ap (λ k. slice_get (slice_set us at a.unit) k) (sym same) ∙ get-set_same us at a.unit x here in
            let k = along.lose x a.unit y b.unit n r q (both.here e) (goes x a.unit (ap (slice_get us) (sym same) ∙ here) after) free loose a.step b.step in
            record { lists = one_changed us ws ms ns at a.unit b.unit l a.units b.units (record { here = λ _. k.0; away = λ no. barred (at == lun) e no }); reply = k.1 }
        | false ↦ λ e.
            let one = same_loss y a.unit b.unit n r q free loose (subst (λ (z : UnitView). IsLost z n (a.unit, r)) (both.away e) a.step) b.step in
            record { lists = one_changed us ws ms ns at a.unit b.unit l a.units b.units (record { here = λ yes. barred (at == lun) yes e; away = λ _. one.0 }); reply = reply_same true true r q one.1 }
      ] refl

  reset_both : (us ws ms ns : List UnitView) (at : ℕ) (o p : Option UnitView) (r q : Reply) → L us ws → slice_get us at ≡ o → slice_get ws at ≡ p → BothAt lun Rel at o p → ((u v : UnitView) → slice_get us lun ≡ Some u → slice_get ms lun ≡ Some v → Kept v)
      → r.status ≢ Busy → q.status ≢ Busy → ResetsAt us at o (ms, r) → ResetsAt ws at p (ns, q) → Both ms ns true (not (at == lun)) r q
  reset_both us ws ms ns at None None r q l here there both goes free loose a b = record {
    lists = none_changed us ws ms ns l (ap (λ (x : List UnitView × Reply). x.0) a) (ap (λ (x : List UnitView × Reply). x.0) b);
    reply = reply_same _ _ r q (ap (λ (x : List UnitView × Reply). x.1) a ∙ sym (ap (λ (x : List UnitView × Reply). x.1) b));
  }
  reset_both us ws ms ns at None (Some y) r q l here there both goes free loose a b = absurd both
  reset_both us ws ms ns at (Some x) None r q l here there both goes free loose a b = absurd both
  reset_both us ws ms ns at (Some x) (Some y) r q l here there both goes free loose a b =
      elim (at == lun) as (λ t. (at == lun) ≡ t → Both ms ns true (not t) r q) [
        | true ↦ λ e.
            let same : at ≡ lun = exact_unsigned_eq at lun e in
            let after : slice_get ms lun ≡ Some a.unit = ap (λ (xs : List UnitView). slice_get xs lun) a.units ∙ ap (λ k. slice_get (slice_set us at a.unit) k) (sym same) ∙ get-set_same us at a.unit x here in
            let k = along.reset x a.unit y b.unit r q (both.here e) (goes x a.unit (ap (slice_get us) (sym same) ∙ here) after) free loose a.step b.step in
            record { lists = one_changed us ws ms ns at a.unit b.unit l a.units b.units (record { here = λ _. k.0; away = λ no. barred (at == lun) e no }); reply = k.1 }
        | false ↦ λ e.
            let one = same_reset y a.unit b.unit r q free loose (subst (λ (z : UnitView). IsReset z (a.unit, r)) (both.away e) a.step) b.step in
            record { lists = one_changed us ws ms ns at a.unit b.unit l a.units b.units (record { here = λ yes. barred (at == lun) yes e; away = λ _. one.0 }); reply = reply_same true true r q one.1 }
      ] refl

  -- an event that is struck out, by its kind
  pub struck_event : (us ws ms : List UnitView) (e : Event) (r : Reply) → is_struck lun inside e ≡ true → L us ws → Steps us e (ms, r) → InSpan lun Kept May us e r ms → L ms ws
  struck_event us ws ms (event.Command n at cdb bytes) r s l step span =
      let parts = two (at == lun) (inside n) s in
      struck_command us ws ms n at cdb.items bytes.items r parts.1 parts.0 l step (λ u v before after. span.goes u v before after)
    where
      two : (a b : Bool) → (a && not b) ≡ true → (a ≡ true) × (b ≡ false)
      two true true e = cc
      two true false e = (refl, refl)
      two false b e = cc
  struck_event us ws ms (event.Loss n at) r s l step span = cc
  struck_event us ws ms (event.Reset at) r s l step span = cc

  -- an event that both runs have
  pub kept_event : (us ws ms ns : List UnitView) (e : Event) (r q : Reply) → is_struck lun inside e ≡ false → L us ws → q.status ≢ Busy → Steps us e (ms, r) → InSpan lun Kept May us e r ms → Steps ws e (ns, q)
      → Both ms ns (is_exact lun exact e) (not (is_at lun e)) r q
  kept_event us ws ms ns (event.Command n at cdb bytes) r q s l loose step span pace =
      command_both us ws ms ns at (slice_get us at) (slice_get ws at) n cdb.items bytes.items r q l refl refl (at_place lun Rel us ws at (slice_get us at) (slice_get ws at) refl refl l) (λ here. second (at == lun) (inside n) here s)
      (λ u v before after. span.goes u v before after) span.served loose step pace
    where
      second : (a b : Bool) → a ≡ true → (a && not b) ≡ false → b ≡ true
      second true true e f = refl
      second true false e f = cc
      second false b e f = cc
  kept_event us ws ms ns (event.Loss n at) r q s l loose step span pace =
      loss_both us ws ms ns n at (slice_get us at) (slice_get ws at) r q l refl refl (at_place lun Rel us ws at (slice_get us at) (slice_get ws at) refl refl l) span.goes span.served loose step pace
  kept_event us ws ms ns (event.Reset at) r q s l loose step span pace =
      reset_both us ws ms ns at (slice_get us at) (slice_get ws at) r q l refl refl (at_place lun Rel us ws at (slice_get us at) (slice_get ws at) refl refl l) span.goes span.served loose step pace

  -- both runs to their ends
  pub record Ends (vs xs : List UnitView) (es : List Event) (rs qs : List Reply) : Type 0 where
    pub lists : L vs xs
    pub replies : Tells lun inside (is_exact lun exact) es rs qs

  -- one step of the first run, and what is left of the second
  module _ (us ws vs xs : List UnitView) (e : Event) (es : List Event) (r : Reply) (rs : List Reply) (l : L us ws) (run : RunsThrough (InSpan lun Kept May) us (e ∷ es) (r ∷ rs) vs)
      (rest : (ns : List UnitView) (qs : List Reply) → L run.0 ns → RunsThrough IsServed ns (struck lun inside es) qs xs → Ends vs xs es rs qs) where
    first : (q : Reply) (qs : List Reply) → is_struck lun inside e ≡ false → RunsThrough IsServed ws (e ∷ struck lun inside es) (q ∷ qs) xs
        → L vs xs × TellsNext (SameReply (is_exact lun exact e) (not (is_at lun e)) r) (Tells lun inside (is_exact lun exact) es rs) (q ∷ qs)
    first q qs s pace =
        let step = kept_event us ws run.0 pace.0 e r q s l pace.2 run.1 run.2 pace.1 in
        let it = rest pace.0 qs step.lists pace.3 in
        (it.lists, (step.reply, it.replies))

    go : (b : Bool) → is_struck lun inside e ≡ b → (qs : List Reply) → RunsThrough IsServed ws (cond b (struck lun inside es) (e ∷ struck lun inside es)) qs xs
        → L vs xs × (elim b as (λ (x : Bool). Type 0) [ true ↦ Tells lun inside (is_exact lun exact) es rs qs | false ↦ TellsNext (SameReply (is_exact lun exact e) (not (is_at lun e)) r) (Tells lun inside (is_exact lun exact) es rs) qs ])
    go true s qs pace =
        let it = rest ws qs (struck_event us ws run.0 e r s l run.1 run.2) pace in
        (it.lists, it.replies)
    go false s [] pace = absurd pace
    go false s (q ∷ qs) pace = first q qs s pace

    pub one_step : (qs : List Reply) → RunsThrough IsServed ws (struck lun inside (e ∷ es)) qs xs → Ends vs xs (e ∷ es) (r ∷ rs) qs
    one_step qs pace = let all = go (is_struck lun inside e) refl qs pace in record { lists = all.0; replies = all.1 }

  pub runs_alike : (us ws vs xs : List UnitView) (es : List Event) (rs qs : List Reply) → L us ws → RunsThrough (InSpan lun Kept May) us es rs vs → RunsThrough IsServed ws (struck lun inside es) qs xs → Ends vs xs es rs qs
  runs_alike us ws vs xs [] [] [] l run race = record { lists = none_changed us ws vs xs l run race; replies = tt }
  runs_alike us ws vs xs [] [] (q ∷ qs) l run race = absurd race
  runs_alike us ws vs xs [] (r ∷ rs) qs l run race = absurd run
  runs_alike us ws vs xs (e ∷ es) [] qs l run race = absurd run
  runs_alike us ws vs xs (e ∷ es) (r ∷ rs) qs l run race =
      one_step us ws vs xs e es r rs l run (λ ns qs k pace. runs_alike run.0 ns vs xs es rs qs k run.3 pace) qs race
