-- Events that lie in pieces.
use Rattle.std.proofs.Common.{◌≡◌, ℕ, zero, suc, List, [], ◌∷◌, ◌++◌, length, get_or, set, ap, append_assoc, arith, ◌∙◌, refl, sym}
use Rattle.std.proofs.lemmas.List.{append-nil}
use Rattle.std.specs.Global.{Vec}
use Rattle.target_core.specs.declared.event.Event.{Event}
use Rattle.script_lines.specs.Events.{joined}

-- an event more in the last piece
pub last_more : (ps : List (Vec Event)) (n : ℕ) (p q : Vec Event) (e : Event) → length ps ≡ suc n → p ≡ get_or ps n p → q.items ≡ p.items ++ e ∷ []
    → joined (set ps n q) ≡ joined ps ++ e ∷ []
last_more [] n p q e last is more = absurd (omega arith)
last_more (x ∷ []) zero p q e last is more = rw (append-nil q.items, append-nil x.items, more, is) refl
last_more (x ∷ []) (suc n) p q e last is more = absurd (omega arith)
last_more (x ∷ y ∷ ps) zero p q e last is more = absurd (omega arith)
last_more (x ∷ y ∷ ps) (suc n) p q e last is more =
    ap (λ (es : List Event). x.items ++ es) (last_more (y ∷ ps) n p q e (omega arith) is more) ∙ sym (append_assoc x.items (joined (y ∷ ps)) (e ∷ []))
