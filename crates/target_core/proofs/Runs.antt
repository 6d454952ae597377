-- A run goes on by one step, and by another run.
use Rattle.std.proofs.Common.{◌≡◌, ℕ, ◌+◌, ◌<◌, List, [], ◌∷◌, ◌++◌, refl, subst, ap, ◌∙◌, append_assoc, length, take, get_or}
use Rattle.std.proofs.lemmas.List.{take_more}
use Rattle.judgement.specs.declared.reply.Reply.{Reply}
use Rattle.logical_unit.specs.UnitView.{UnitView}
use Rattle.target_core.specs.declared.event.Event.{Event}
use Rattle.target_core.specs.Run.{Steps, Runs}

pub Runs-append : (us ms vs : List UnitView) (es fs : List Event) (rs qs : List Reply) → Runs us es rs ms → Runs ms fs qs vs → Runs us (es ++ fs) (rs ++ qs) vs
Runs-append us ms vs [] fs [] qs h k = subst (λ (m : List UnitView). Runs m fs qs vs) h k
Runs-append us ms vs (e ∷ es) fs (r ∷ rs) qs h k = (h.0, h.1, Runs-append h.0 ms vs es fs rs qs h.2 k)
Runs-append us ms vs [] fs (r ∷ rs) qs h k = absurd h
Runs-append us ms vs (e ∷ es) fs [] qs h k = absurd h

-- replies are added to old ones, and are those of a run of the first events
pub record Told (us : List UnitView) (es : List Event) (i : ℕ) (old now : List Reply) (vs : List UnitView) : Type 0 where
  pub replies : List Reply
  pub added : now ≡ old ++ replies
  pub run : Runs us (take i es) replies vs

pub Told-step : {us : List UnitView} {es : List Event} {i : ℕ} {old now : List Reply} {ms : List UnitView} (x : Event) (next : List Reply) (r : Reply) (vs : List UnitView) → Told us es i old now ms → i < length es → x ≡ get_or es i x → next ≡ now ++ r ∷ [] → Steps ms x (vs, r) → Told us es (i + 1) old next vs
Told-step {us} {es} {i} {old} {now} {ms} x next r vs t h is e s =
    record {
      replies = t.replies ++ r ∷ [];
      added = e ∙ ap (λ l. l ++ r ∷ []) t.added ∙ append_assoc old t.replies (r ∷ []);
      run = rw (take_more es i x h, ← is) (Runs-append us ms vs (take i es) (x ∷ []) t.replies (r ∷ []) t.run (vs, s, refl));
    }
