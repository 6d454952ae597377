-- Lists that are a part of others.
use Rattle.std.proofs.Common.{Bool, true, false, cond, List, [], ◌∷◌, ◌++◌, inl, inr, refl, sym, subst, ◌∙◌, append_assoc}
use Rattle.std.specs.Prelude.{map, filter}
use Rattle.iscsi_tasks.specs.Runs.{IsPartOf}

pub whole : {X : Type 0} (xs : List X) → IsPartOf xs xs
whole [] = tt
whole (x ∷ xs) = inl (refl, whole xs)

pub past : {X : Type 0} (xs : List X) (y : X) (ys : List X) → IsPartOf xs ys → IsPartOf xs (y ∷ ys)
past [] y ys p = tt
past (x ∷ xs) y ys p = inr p

pub part_trans : {X : Type 0} (xs ys zs : List X) → IsPartOf xs ys → IsPartOf ys zs → IsPartOf xs zs
part_trans [] ys zs p q = tt
part_trans (x ∷ xs) [] zs p q = absurd p
part_trans (x ∷ xs) (y ∷ ys) [] p q = absurd q
part_trans (x ∷ xs) (y ∷ ys) (z ∷ zs) p q =
    elim q [
      | inl here ↦ (elim p [
        | inl both ↦ inl (both.0 ∙ here.0, part_trans xs ys zs both.1 here.1)
        | inr behind ↦ inr (part_trans (x ∷ xs) ys zs behind here.1)
      ])
      | inr later ↦ inr (part_trans (x ∷ xs) (y ∷ ys) zs p later)
    ]

-- the same before both
pub part_front : {X : Type 0} (us xs ys : List X) → IsPartOf xs ys → IsPartOf (us ++ xs) (us ++ ys)
part_front [] xs ys p = p
part_front (u ∷ us) xs ys p = inl (refl, part_front us xs ys p)

-- the second alone has more before
pub part_late : {X : Type 0} (us xs ys : List X) → IsPartOf xs ys → IsPartOf xs (us ++ ys)
part_late [] xs ys p = p
part_late (u ∷ us) xs ys p = past xs u (us ++ ys) (part_late us xs ys p)

front : {X : Type 0} (xs us : List X) → IsPartOf xs (xs ++ us)
front [] us = tt
front (x ∷ xs) us = inl (refl, front xs us)

-- the same behind both
pub part_behind : {X : Type 0} (us xs ys : List X) → IsPartOf xs ys → IsPartOf (xs ++ us) (ys ++ us)
part_behind us [] ys p = part_late ys us us (whole us)
part_behind us (x ∷ xs) [] p = absurd p
part_behind us (x ∷ xs) (y ∷ ys) p =
    elim p [
      | inl here ↦ inl (here.0, part_behind us xs ys here.1)
      | inr later ↦ inr (part_behind us (x ∷ xs) ys later)
    ]

filtered : {X Y : Type 0} (f : X → Y) (x : X) (xs kept : List X) (b : Bool) → IsPartOf (map f kept) (map f xs) → IsPartOf (map f (cond b (x ∷ kept) kept)) (f x ∷ map f xs)
filtered f x xs kept true p = inl (refl, p)
filtered f x xs kept false p = past (map f kept) (f x) (map f xs) p

-- what a filter leaves
pub part_filter : {X Y : Type 0} (f : X → Y) (test : X → Bool) (xs : List X) → IsPartOf (map f (filter test xs)) (map f xs)
part_filter f test [] = tt
part_filter f test (x ∷ xs) = filtered f x xs (filter test xs) (test x) (part_filter f test xs)

-- a front
pub part_start : {X : Type 0} (xs us ys : List X) → IsPartOf (xs ++ us) ys → IsPartOf xs ys
part_start xs us ys p = part_trans xs (xs ++ us) ys (front xs us) p

pub part_more : {X : Type 0} (xs ys us : List X) → IsPartOf xs ys → IsPartOf xs (ys ++ us)
part_more xs ys us p = part_trans xs ys (ys ++ us) p (front ys us)

-- two parts behind one another
pub part_both : {X : Type 0} (xs ys us vs : List X) → IsPartOf xs ys → IsPartOf us vs → IsPartOf (xs ++ us) (ys ++ vs)
part_both xs ys us vs p q = part_trans (xs ++ us) (xs ++ vs) (ys ++ vs) (part_front xs us vs q) (part_behind vs xs ys p)

-- parts of parts, along a run
pub part_join : {X : Type 0} (o1 o2 w0 w1 w2 c1 c2 : List X) → IsPartOf (o1 ++ w1) (w0 ++ c1) → IsPartOf (o2 ++ w2) (w1 ++ c2) → IsPartOf ((o1 ++ o2) ++ w2) (w0 ++ (c1 ++ c2))
part_join {X} o1 o2 w0 w1 w2 c1 c2 p q =
    let before : IsPartOf (o1 ++ (o2 ++ w2)) (o1 ++ (w1 ++ c2)) = part_front o1 (o2 ++ w2) (w1 ++ c2) q in
    let behind : IsPartOf ((o1 ++ w1) ++ c2) ((w0 ++ c1) ++ c2) = part_behind c2 (o1 ++ w1) (w0 ++ c1) p in
    let middle : IsPartOf (o1 ++ (w1 ++ c2)) ((w0 ++ c1) ++ c2) =
    subst (λ (xs : List X). IsPartOf xs ((w0 ++ c1) ++ c2)) (append_assoc o1 w1 c2) behind in
    let all : IsPartOf (o1 ++ (o2 ++ w2)) ((w0 ++ c1) ++ c2) =
    part_trans (o1 ++ (o2 ++ w2)) (o1 ++ (w1 ++ c2)) ((w0 ++ c1) ++ c2) before middle in
    subst (λ (xs : List X). IsPartOf xs (w0 ++ (c1 ++ c2))) (sym (append_assoc o1 o2 w2))
    (subst (λ (ys : List X). IsPartOf (o1 ++ (o2 ++ w2)) ys) (append_assoc w0 c1 c2) all)
