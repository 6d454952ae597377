-- The range in front of a place and the one behind it: apart from a range that goes there, touching it, or with some of its numbers.
use Rattle.std.proofs.Common.{◌≡◌, ℕ, ◌+◌, ◌-◌, ◌<◌, ◌≤◌, List, [], ◌∷◌, ◌++◌, length, true, inl, inr, get_or, take, drop, refl, sym, ap, ◌∙◌, arith}
use Rattle.std.proofs.lemmas.List.{take_more, drop_more}
use Rattle.settled_numbers.specs.declared.number_range.NumberRange.{NumberRange}
use Rattle.settled_numbers.specs.Numbers.{is_joined, end, Meets}
use Rattle.settled_numbers.specs.Placing.{LowFits, HighFits}
use Rattle.settled_numbers.proofs.Numbers.{has_at, end_at, joined_behind, in_range}

pub low_meets : (rs : List NumberRange) (at : ℕ) (r l : NumberRange) → (at ≡ 0 → ⊥) → at ≤ length rs → l ≡ get_or rs (at - 1) l → ((d : NumberRange) → 0 < at → (get_or rs (at - 1) d).first ≤ r.first) → r.first ≤ l.last → Meets rs r
low_meets rs at r l some within is below meets =
    let up : l.last ≡ (get_or rs (at - 1) l).last = ap (λ (x : NumberRange). x.last) is in
    let ordered : r.first ≤ r.last = r.ordered in
    let le = below l (omega (arith, some)) in
    (r.first, has_at rs (at - 1) l r.first (omega (arith, some)) le (omega (arith, up, meets)), in_range r.first r (omega arith) ordered)

pub low_touches : (rs : List NumberRange) (at : ℕ) (r l : NumberRange) → (at ≡ 0 → ⊥) → at ≤ length rs → l ≡ get_or rs (at - 1) l → l.last < r.first → r.first - l.last ≡ 1
    → LowFits (take at rs) (take (at - 1) rs) r l.first
low_touches rs at r l some within is above next =
    let more = take_more rs (at - 1) l (omega (arith, some)) in
    let same : at ≡ at - 1 + 1 = omega (arith, some) in
    inr (l, ap (λ (n : ℕ). take n rs) same ∙ more ∙ ap (λ (x : NumberRange). take (at - 1) rs ++ x ∷ []) (sym is), refl, omega arith)

pub low_apart : (rs : List NumberRange) (at : ℕ) (r l : NumberRange) → (at ≡ 0 → ⊥) → at ≤ length rs → l ≡ get_or rs (at - 1) l → l.last < r.first → (r.first - l.last ≡ 1 → ⊥)
    → LowFits (take at rs) (take at rs) r r.first
low_apart rs at r l some within is above gap =
    let ends = end_at 0 rs (at - 1) l (omega (arith, some)) in
    let same : at ≡ at - 1 + 1 = omega (arith, some) in
    let at_end : end 0 (take at rs) ≡ (get_or rs (at - 1) l).last + 2 = ap (λ (n : ℕ). end 0 (take n rs)) same ∙ ends in
    let up : l.last ≡ (get_or rs (at - 1) l).last = ap (λ (x : NumberRange). x.last) is in
    inl (refl, refl, omega (arith, at_end, up, above, gap))

pub high_meets : (rs : List NumberRange) (at : ℕ) (r h : NumberRange) → at < length rs → h ≡ get_or rs at h → ((d : NumberRange) → at < length rs → r.first < (get_or rs at d).first) → h.first ≤ r.last → Meets rs r
high_meets rs at r h within is above meets =
    let from : h.first ≡ (get_or rs at h).first = ap (λ (x : NumberRange). x.first) is in
    let up : h.last ≡ (get_or rs at h).last = ap (λ (x : NumberRange). x.last) is in
    let ordered : h.first ≤ h.last = h.ordered in
    let lt = above h within in
    (h.first, has_at rs at h h.first within (omega (arith, from)) (omega (arith, up, ordered)), in_range h.first r (omega (arith, from, lt)) meets)

pub high_touches : (rs : List NumberRange) (at : ℕ) (r h : NumberRange) → at < length rs → h ≡ get_or rs at h → r.last < h.first → h.first - r.last ≡ 1
    → HighFits (drop at rs) (drop (at + 1) rs) r h.last
high_touches rs at r h within is above next =
    inr (h, drop_more rs at h within ∙ ap (λ (x : NumberRange). x ∷ drop (at + 1) rs) (sym is), refl, omega arith)

pub high_apart : (rs : List NumberRange) (at : ℕ) (r h : NumberRange) → is_joined 0 rs ≡ true → at < length rs → h ≡ get_or rs at h → r.last < h.first → (h.first - r.last ≡ 1 → ⊥)
    → HighFits (drop at rs) (drop at rs) r r.last
high_apart rs at r h joined within is above gap =
    let from : h.first ≡ (get_or rs at h).first = ap (λ (x : NumberRange). x.first) is in
    inl (refl, refl, joined_behind rs at h (r.last + 2) joined within (omega (arith, from, above, gap)))
