-- Two lists of units that are related at one place and the same at all others.
use Rattle.std.proofs.Common.{◌≡◌, ◌≢◌, ℕ, zero, suc, true, false, ◌==◌, List, [], ◌∷◌, Option, Some, None, refl, sym, ap, ◌∙◌, subst, eq-eqb}
use Rattle.std.specs.Prelude.{slice_get, slice_set}
use Rattle.std.proofs.lemmas.Map.Views.{exact_unsigned_eq}
use Rattle.logical_unit.specs.Medium.{taken_out, put_in}
use Rattle.logical_unit.specs.UnitView.{UnitView}
use Rattle.target_core.proofs.Places.{same_some}
use Rattle.target_core.proofs.History.{get-set_same, get-set_other}
use Rattle.protected_span.proofs.Carry.{Same, With, Takes, same_self, same_as}
use Rattle.logical_unit.proofs.OutsiderLeavesContents.{barred}

-- two lists that agree at a place agree there after both are changed alike
get-set_alike : (xs ys : List UnitView) (i j : ℕ) (x : UnitView) → slice_get xs j ≡ slice_get ys j → slice_get (slice_set xs i x) j ≡ slice_get (slice_set ys i x) j
get-set_alike [] [] i j x h = refl
get-set_alike [] (y ∷ ys) zero zero x h = cc
get-set_alike [] (y ∷ ys) zero (suc j) x h = h
get-set_alike [] (y ∷ ys) (suc i) zero x h = cc
get-set_alike [] (y ∷ ys) (suc i) (suc j) x h = get-set_alike [] ys i j x h
get-set_alike (z ∷ xs) [] zero zero x h = cc
get-set_alike (z ∷ xs) [] zero (suc j) x h = h
get-set_alike (z ∷ xs) [] (suc i) zero x h = cc
get-set_alike (z ∷ xs) [] (suc i) (suc j) x h = get-set_alike xs [] i j x h
get-set_alike (z ∷ xs) (y ∷ ys) zero zero x h = refl
get-set_alike (z ∷ xs) (y ∷ ys) zero (suc j) x h = h
get-set_alike (z ∷ xs) (y ∷ ys) (suc i) zero x h = h
get-set_alike (z ∷ xs) (y ∷ ys) (suc i) (suc j) x h = get-set_alike xs ys i j x h

no_unit : (u : UnitView) → None ≡ Some u → ⊥
no_unit u e = cc

pub apart_of : (a b : ℕ) → (a == b) ≡ false → a ≢ b
apart_of a b e same = barred (a == b) (eq-eqb a b same) e

pub test_of : (a b : ℕ) → a ≢ b → (a == b) ≡ false
test_of a b apart = elim (a == b) as (λ t. (a == b) ≡ t → t ≡ false) [ true ↦ λ e. absurd (apart (exact_unsigned_eq a b e)) | false ↦ λ e. refl ] refl

module _ (lun : ℕ) (Rel : UnitView → UnitView → Type 0) where
  pub record Lists (us ws : List UnitView) : Type 0 where
    pub f : UnitView
    pub g : UnitView
    pub here : slice_get us lun ≡ Some f
    pub there : slice_get ws lun ≡ Some g
    pub related : Rel f g
    pub rest : (k : ℕ) → lun ≢ k → slice_get us k ≡ slice_get ws k

  -- two units at a place: related at the one, the same elsewhere
  pub record At (k : ℕ) (x y : UnitView) : Type 0 where
    pub here : (k == lun) ≡ true → Rel x y
    pub away : (k == lun) ≡ false → x ≡ y

  abbrev pub BothAt : ℕ → Option UnitView → Option UnitView → Type 0
  BothAt k None None = Unit {0}
  BothAt k (Some x) (Some y) = At k x y
  BothAt k o p = ⊥

  both_same : (us ws : List UnitView) (k : ℕ) (o p : Option UnitView) → (k == lun) ≡ false → slice_get us k ≡ o → slice_get ws k ≡ p → slice_get us k ≡ slice_get ws k → BothAt k o p
  both_same us ws k None None away a b same = tt
  both_same us ws k (Some x) (Some y) away a b same = record { here = λ e. barred (k == lun) e away; away = λ e. same_some x y (sym a ∙ same ∙ b) }
  both_same us ws k None (Some y) away a b same = no_unit y (sym a ∙ same ∙ b)
  both_same us ws k (Some x) None away a b same = no_unit x (sym b ∙ sym same ∙ a)

  both_here : (us ws : List UnitView) (k : ℕ) (o p : Option UnitView) → (k == lun) ≡ true → slice_get us k ≡ o → slice_get ws k ≡ p → Lists us ws → BothAt k o p
  both_here us ws k None p here a b l = absurd (no_unit l.f (sym a ∙ ap (slice_get us) (exact_unsigned_eq k lun here) ∙ l.here))
  both_here us ws k (Some x) None here a b l = absurd (no_unit l.g (sym b ∙ ap (slice_get ws) (exact_unsigned_eq k lun here) ∙ l.there))
  both_here us ws k (Some x) (Some y) here a b l =
      let same = exact_unsigned_eq k lun here in
      let first : l.f ≡ x = same_some l.f x (sym l.here ∙ sym (ap (slice_get us) same) ∙ a) in
      let second : l.g ≡ y = same_some l.g y (sym l.there ∙ sym (ap (slice_get ws) same) ∙ b) in
      record { here = λ e. subst (λ (z : UnitView). Rel x z) second (subst (λ (z : UnitView). Rel z l.g) first l.related); away = λ e. barred (k == lun) here e }

  pub at_place : (us ws : List UnitView) (k : ℕ) (o p : Option UnitView) → slice_get us k ≡ o → slice_get ws k ≡ p → Lists us ws → BothAt k o p
  at_place us ws k o p a b l =
      elim (k == lun) as (λ t. (k == lun) ≡ t → BothAt k o p) [
        | true ↦ λ e. both_here us ws k o p e a b l
        | false ↦ λ e. both_same us ws k o p e a b (l.rest k (λ same. apart_of k lun e (sym same)))
      ] refl

  -- the unit itself changed, in one
  pub one_here : (us ws : List UnitView) (v : UnitView) (l : Lists us ws) → Rel v l.g → Lists (slice_set us lun v) ws
  one_here us ws v l rel = record { f = v; g = l.g; here = get-set_same us lun v l.f l.here; there = l.there; related = rel; rest = λ k apart. get-set_other us lun k v apart ∙ l.rest k apart }

  set_here : (us ws : List UnitView) (x y : UnitView) → Lists us ws → Rel x y → Lists (slice_set us lun x) (slice_set ws lun y)
  set_here us ws x y l rel = record {
    f = x;
    g = y;
    here = get-set_same us lun x l.f l.here;
    there = get-set_same ws lun y l.g l.there;
    related = rel;
    rest = λ k apart. get-set_other us lun k x apart ∙ l.rest k apart ∙ sym (get-set_other ws lun k y apart);
  }

  set_away : (us ws : List UnitView) (at : ℕ) (x : UnitView) → at ≢ lun → Lists us ws → Lists (slice_set us at x) (slice_set ws at x)
  set_away us ws at x apart l = record {
    f = l.f;
    g = l.g;
    here = get-set_other us at lun x apart ∙ l.here;
    there = get-set_other ws at lun x apart ∙ l.there;
    related = l.related;
    rest = λ k far. get-set_alike us ws at k x (l.rest k far);
  }

  -- one place set, in both. An event that touches several units is several of these
  pub set_at : (us ws : List UnitView) (at : ℕ) (x y : UnitView) → Lists us ws → At at x y → Lists (slice_set us at x) (slice_set ws at y)
  set_at us ws at x y l a =
      elim (at == lun) as (λ b. (at == lun) ≡ b → Lists (slice_set us at x) (slice_set ws at y)) [
        | true ↦ λ e. subst (λ k. Lists (slice_set us k x) (slice_set ws k y)) (sym (exact_unsigned_eq at lun e)) (set_here us ws x y l (a.here e))
        | false ↦ λ e. subst (λ (z : UnitView). Lists (slice_set us at x) (slice_set ws at z)) (a.away e) (set_away us ws at x (apart_of at lun e) l)
      ] refl

  -- what volumes keep that go out and come in at the one unit, they keep at each place
  same_at : (k : ℕ) (x : UnitView) → (k == lun) ≡ false → At k x x
  same_at k x away = record { here = λ e. barred (k == lun) e away; away = λ e. refl }

  here_at : (k : ℕ) → (k == lun) ≡ true → (x y : UnitView) → Rel x y → At k x y
  here_at k here x y rel = record { here = λ e. rel; away = λ e. barred (k == lun) here e }

  pub takes_at : (k : ℕ) → Takes Rel → Takes (At k)
  takes_at k t = record {
    out = λ x y a.
        elim (k == lun) as (λ b. (k == lun) ≡ b → Same (With (At k)) (taken_out x) (taken_out y)) [
          | true ↦ λ e. same_as (With Rel) (With (At k)) (λ p q h. (h.0, here_at k e p.1 q.1 h.1)) (taken_out x) (taken_out y) (t.out x y (a.here e))
          | false ↦ λ e. subst (λ (z : UnitView). Same (With (At k)) (taken_out x) (taken_out z)) (a.away e) (same_self (With (At k)) (λ p. (refl, same_at k p.1 e)) (taken_out x))
        ] refl;
    comes = λ x y v a.
        elim (k == lun) as (λ b. (k == lun) ≡ b → Same (At k) (put_in x v) (put_in y v)) [
          | true ↦ λ e. same_as Rel (At k) (here_at k e) (put_in x v) (put_in y v) (t.comes x y v (a.here e))
          | false ↦ λ e. subst (λ (z : UnitView). Same (At k) (put_in x v) (put_in z v)) (a.away e) (same_self (At k) (λ p. same_at k p e) (put_in x v))
        ] refl;
  }
