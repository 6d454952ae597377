-- Law: a count says how many of its kind were counted.
use Rattle.std.proofs.Common.{◌≡◌, ◌∙◌, ◌&&◌, if◌then◌else◌, ℕ, Bool, true, false, refl, sym, ap, subst, List, [], ◌∷◌, inl, inr, true≢false}
use Rattle.std.specs.Str.{bytes_eq}
use Rattle.std.proofs.lemmas.Bool.{cases_Bool}
use Rattle.std.proofs.lemmas.Slice.Eq.{bytes_eq-Decides}
use Rattle.record_lines.specs.Counts.{Count, CountsAddUp, Kind, amount, counted, one_more, same_kind}

both : (a b : Bool) → (a && b) ≡ true → (a ≡ true) × (b ≡ true)
both true b e = (refl, e)
both false b e = (e, absurd (true≢false (sym e)))

same_bytes : (xs ys : List ℕ) → bytes_eq xs ys ≡ true → xs ≡ ys
same_bytes xs ys e = (bytes_eq-Decides xs ys).0 e

-- kinds that are the same are one
one_kind : (a b : Kind) → same_kind a b ≡ true → a ≡ b
one_kind a b e =
    let class = both (bytes_eq a.class b.class) (bytes_eq a.res_type b.res_type && (bytes_eq a.role b.role && bytes_eq a.status b.status)) e in
    let type = both (bytes_eq a.res_type b.res_type) (bytes_eq a.role b.role && bytes_eq a.status b.status) class.1 in
    let role = both (bytes_eq a.role b.role) (bytes_eq a.status b.status) type.1 in
    let c = same_bytes a.class b.class class.0 in
    let t = same_bytes a.res_type b.res_type type.0 in
    let r = same_bytes a.role b.role role.0 in
    let s = same_bytes a.status b.status role.1 in
    ap (λ w. record a { class = w }) c ∙ ap (λ w. record a { class = b.class; res_type = w }) t
    ∙ ap (λ w. record a { class = b.class; res_type = b.res_type; role = w }) r
    ∙ ap (λ w. record { class = b.class; res_type = b.res_type; role = b.role; status = w }) s

-- the count of this kind is the first
here : (c : Count) (cs : List Count) (other : Kind) → same_kind c.kind c.kind ≡ true
    → amount (counted (c ∷ cs) c.kind) other ≡ (if same_kind other c.kind then one_more (amount (c ∷ cs) other) else amount (c ∷ cs) other)
here c cs other same = elim (cases_Bool (same_kind other c.kind)) [
  | inl of_it ↦ rw same (rw of_it refl)
  | inr of_another ↦ rw same (rw of_another refl)
]

-- two kinds of which one is that of a count and the other isn't
apart : (c : Count) (kind other : Kind) → same_kind kind c.kind ≡ false → same_kind other c.kind ≡ true → same_kind other kind ≡ false
apart c kind other not_here is_here = elim (cases_Bool (same_kind other kind)) [
  | inl one ↦ absurd (true≢false (sym is_here ∙ (ap (λ k. same_kind k c.kind) (one_kind other kind one) ∙ not_here)))
  | inr differ ↦ differ
]

-- the count of this kind is behind the first
behind : (c : Count) (cs : List Count) (kind other : Kind) → same_kind kind c.kind ≡ false
    → amount (counted cs kind) other ≡ (if same_kind other kind then one_more (amount cs other) else amount cs other)
    → amount (counted (c ∷ cs) kind) other ≡ (if same_kind other kind then one_more (amount (c ∷ cs) other) else amount (c ∷ cs) other)
behind c cs kind other not_here rest = elim (cases_Bool (same_kind other c.kind)) [
  | inl of_it ↦ rw not_here (rw of_it (rw (apart c kind other not_here of_it) refl))
  | inr of_another ↦ rw not_here (rw of_another rest)
]

pub add_up : CountsAddUp
add_up [] kind other = refl
add_up (c ∷ cs) kind other = elim (cases_Bool (same_kind kind c.kind)) [
  | inl same ↦
      subst (λ k. same_kind k c.kind ≡ true → amount (counted (c ∷ cs) k) other ≡ (if same_kind other k then one_more (amount (c ∷ cs) other) else amount (c ∷ cs) other))
      (sym (one_kind kind c.kind same)) (here c cs other) same
  | inr differ ↦ behind c cs kind other differ (add_up cs kind other)
]
