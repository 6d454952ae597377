-- Each object of an image that was read ends where its index says.
use Rattle.std.proofs.Common.{◌≡◌, ℕ, ◌+◌, ◌≤◌, Bool, true, false, cond, inl, inr, List, [], ◌∷◌, ◌++◌, length, take, drop, map, refl, sym, ap, subst, ◌∙◌, append_assoc, length-drop, length-append, arith}
use Rattle.std.proofs.lemmas.Bool.{cases_lt}
use Rattle.std.proofs.lemmas.List.{take-append-drop, length-take-le, drop-take, take-take, drop_at, drop_all, drop-drop, take_all}
use Rattle.tape_medium.specs.Object.{Object, Block, Mark}
use Rattle.tape_image.specs.declared.fault.ImageFault.TheVariants.{UnequalLengths}
use Rattle.tape_image.specs.Images.{block_count}
use Rattle.tape_image.specs.Indexes.{indexed}
use Rattle.tape_image.specs.Parts.{PartValue, Partial, Complete, Gap, End, Invalid, sized, image_part}
use Rattle.tape_image.specs.Reading.{Placed, Stop, Waiting, Ended, Broken, Reads, partial, ended, faulty, gap, object}
use Rattle.tape_image.proofs.Parts.{part_is, short_is, there, not_there, chosen}
use Rattle.tape_image.proofs.Images.{known_some, stays}
use Rattle.tape_image.proofs.Fits.{told}
use Rattle.tape_image.specs.declared.index.IndexedObject.{IndexedObject}
use Rattle.tape_flush.specs.Stores.{FileValue}
use Rattle.tape_flush.specs.Careful.{trusted_to, IsKnown}
use Rattle.tape_flush.specs.Saved.{ends_within, Holds}
use Rattle.tape_flush.proofs.Flushes.{Bytes}
use Rattle.tape_flush.proofs.CopyLemmas.{holds_by, shrunk_bytes}
use Rattle.tape_flush.specs.Images.{object_in, HoldsOne, HoldsAll}
use Rattle.tape_flush.specs.Openings.{end_of_entry}
use Rattle.tape_flush.proofs.Holding.{end_from, holds_nothing}

assoc : (a b c : ℕ) → a + (b + c) ≡ a + b + c
assoc a b c = omega arith

zero_plus : (a : ℕ) → 0 + a ≡ a
zero_plus a = omega arith

-- HOW MANY BYTES A PART TAKES, by its object

part_size : Object → ℕ
part_size (Block bytes) = block_count (length bytes)
part_size Mark = 4

Counts : PartValue → Type 0
Counts (Complete x count) = count ≡ part_size x
Counts Gap = Unit {0}
Counts End = Unit {0}
Counts (Partial wanted) = Unit {0}
Counts (Invalid fault) = Unit {0}

chosen_counts : (a b c d e : Bool) (p : PartValue) → Counts p → Counts (chosen a b c d e p)
unfolding chosen part_size Counts
chosen_counts true b c d e p h = refl
chosen_counts false true c d e p h = tt
chosen_counts false false true d e p h = tt
chosen_counts false false false true e p h = tt
chosen_counts false false false false true p h = tt
chosen_counts false false false false false p h = h

agreed_counts : (same : Bool) (bytes : List ℕ) (size : ℕ) → size ≡ length bytes → Counts (cond same (Complete (Block bytes) (block_count size)) (Invalid UnequalLengths))
unfolding part_size Counts
agreed_counts true bytes size is = ap block_count is
agreed_counts false bytes size is = tt

sized_counts : (size : ℕ) (b : List ℕ) → Counts (sized size b)
unfolding Counts
sized_counts size b = elim (cases_lt (length b) (block_count size)) [
  | inl short ↦ subst Counts (sym (not_there size b short)) tt
  | inr long ↦ (
      let size_is : size ≡ length (take size (drop 4 b)) = sym (length-take-le size (drop 4 b) (omega (arith, length-drop 4 b))) in
      subst Counts (sym (there size b long)) (agreed_counts _ (take size (drop 4 b)) size size_is))
]

counts : (b : List ℕ) → Counts (image_part b)
unfolding chosen Counts
counts b = elim (cases_lt (length b) 4) [
  | inl short ↦ subst Counts (sym (short_is b short)) tt
  | inr four ↦ subst Counts (sym (part_is b four)) (chosen_counts _ _ _ _ _ _ (sized_counts _ b))
]

counted : (b : List ℕ) (x : Object) (n : ℕ) → image_part b ≡ Complete x n → n ≡ part_size x
unfolding Counts
counted b x n e = subst Counts e (counts b)

-- EACH OBJECT UP TO ITS END

-- where the objects end, as the code finds it
abbrev pub ends_in : List Placed → List ℕ
ends_in xs = map end_of_entry (map indexed xs)

end_is : (o : ℕ) (x : Object) → end_of_entry (indexed (record { offset = o; object = x })) ≡ o + part_size x
unfolding part_size
end_is o (Block bytes) = refl
end_is o Mark = refl

-- the first part of some bytes, alone
alone : (o n : ℕ) (b : List ℕ) (x : Object) → image_part b ≡ Complete x n → n ≤ length b → HoldsOne o (o + n) (take n b) x
alone o n b x e within =
    let here : image_part (take n b) ≡ Complete x n = told n b (Complete x n) e within (omega arith) in
    let size : length (take n b) ≡ n = length-take-le n b within in
    let none : drop n (take n b) ≡ [] = drop_all n (take n b) (omega arith) in
    (o, object o (take n b) x n [] (Waiting (o + n) []) here (subst (λ (z : List ℕ). Reads (o + n) z [] (Waiting (o + n) [])) (sym none) (holds_nothing (o + n))))

-- what an image holds up to its last object, and what is read behind it
pub record Cut (o : ℕ) (b : List ℕ) (xs : List Placed) (s : Stop) : Type 0 where
  pub count : ℕ
  pub end : o + count ≡ end_from o (ends_in xs) (length (ends_in xs))
  pub within : count ≤ length b
  pub holds : HoldsAll o (take count b) (map object_in xs) (ends_in xs)
  pub rest : Reads (o + count) (drop count b) [] s

no_object : (o : ℕ) (b : List ℕ) (s : Stop) → Reads o b [] s → Cut o b [] s
no_object o b s r =
    let here : o ≡ o + 0 = omega arith in
    record { count = 0; end = omega arith; within = omega arith; holds = refl; rest = subst (λ (k : ℕ). Reads k b [] s) here r }

take_add : (n m : ℕ) (b : List ℕ) → take (n + m) b ≡ take n b ++ take m (drop n b)
take_add n m b =
    let front : take n (take (n + m) b) ≡ take n b = take-take n (n + m) b (omega arith) in
    sym (take-append-drop n (take (n + m) b)) ∙ ap (λ (z : List ℕ). z ++ drop n (take (n + m) b)) front ∙ ap (λ (z : List ℕ). take n b ++ z) (drop-take n m b)

gap_first : (o end : ℕ) (b part : List ℕ) (x : Object) → image_part b ≡ Gap → 4 ≤ length b → HoldsOne (o + 4) end part x → HoldsOne o end (take 4 b ++ part) x
gap_first o end b part x e within h =
    let here : image_part (take 4 b ++ part) ≡ Gap = stays (take 4 b) part Gap (told 4 b Gap e within (omega arith)) tt in
    let behind : drop 4 (take 4 b ++ part) ≡ part = drop_at (take 4 b) part 4 (length-take-le 4 b within) in (
      h.0,
      gap o (take 4 b ++ part) (record { offset = h.0; object = x } ∷ []) (Waiting end []) here
          (subst (λ (z : List ℕ). Reads (o + 4) z (record { offset = h.0; object = x } ∷ []) (Waiting end [])) (sym behind) h.1),
    )

rest_behind : (o n m : ℕ) (b : List ℕ) (s : Stop) → Reads (o + n + m) (drop m (drop n b)) [] s → Reads (o + (n + m)) (drop (n + m) b) [] s
rest_behind o n m b s r =
    subst (λ (z : List ℕ). Reads (o + (n + m)) z [] s) (drop-drop m n b) (subst (λ (k : ℕ). Reads k (drop m (drop n b)) [] s) (sym (assoc o n m)) r)

behind_gap : (o : ℕ) (b : List ℕ) (xs : List Placed) (s : Stop) → image_part b ≡ Gap → 4 ≤ length b → Reads (o + 4) (drop 4 b) xs s → Cut (o + 4) (drop 4 b) xs s → Cut o b xs s
behind_gap o b [] s e within more c = no_object o b s (gap o b [] s e more)
behind_gap o b (x ∷ xs) s e within more c =
    let h = c.holds in
    let size : length (take 4 b) ≡ 4 = length-take-le 4 b within in
    record {
      count = 4 + c.count;
      end = assoc o 4 c.count ∙ c.end;
      within = omega (arith, within, c.within, length-drop 4 b);
      holds = (
        take 4 b ++ h.0,
        h.1,
        take_add 4 c.count b ∙ ap (λ (z : List ℕ). take 4 b ++ z) h.2 ∙ sym (append_assoc (take 4 b) h.0 h.1),
        omega (arith, h.3, size, length-append (take 4 b) h.0),
        gap_first o _ b h.0 x.object e within h.4,
        h.5,
      );
      rest = rest_behind o 4 c.count b s c.rest;
    }

behind_object : (o n : ℕ) (b : List ℕ) (x : Object) (xs : List Placed) (s : Stop) → image_part b ≡ Complete x n → n ≤ length b → Cut (o + n) (drop n b) xs s
    → Cut o b (record { offset = o; object = x } ∷ xs) s
behind_object o n b x xs s e within c =
    let first : Placed = record { offset = o; object = x } in
    let end : o + n ≡ end_of_entry (indexed first) = ap (λ (k : ℕ). o + k) (counted b x n e) ∙ sym (end_is o x) in
    let size : length (take n b) ≡ n = length-take-le n b within in
    record {
      count = n + c.count;
      end = assoc o n c.count ∙ c.end ∙ ap (λ (k : ℕ). end_from k (ends_in xs) (length (ends_in xs))) end;
      within = omega (arith, within, c.within, length-drop n b);
      holds = (
        take n b,
        take c.count (drop n b),
        take_add n c.count b,
        sym end ∙ ap (λ (k : ℕ). o + k) (sym size),
        subst (λ (k : ℕ). HoldsOne o k (take n b) x) end (alone o n b x e within),
        subst (λ (k : ℕ). HoldsAll k (take c.count (drop n b)) (map object_in xs) (ends_in xs)) end c.holds,
      );
      rest = rest_behind o n c.count b s c.rest;
    }

pub cut_to_last : (o : ℕ) (b : List ℕ) (xs : List Placed) (s : Stop) → Reads o b xs s → Cut o b xs s
cut_to_last _ _ _ _ (partial o b w e) = no_object o b (Waiting o b) (partial o b w e)
cut_to_last _ _ _ _ (ended o b e) = no_object o b (Ended o) (ended o b e)
cut_to_last _ _ _ _ (faulty o b f e) = no_object o b (Broken o f) (faulty o b f e)
cut_to_last _ _ _ _ (gap o b others stop e more) =
    behind_gap o b others stop e (known_some b Gap e) more (cut_to_last (o + 4) (drop 4 b) others stop more)
cut_to_last _ _ _ _ (object o b x n others stop e more) =
    behind_object o n b x others stop e (known_some b (Complete x n) e).1 (cut_to_last (o + n) (drop n b) others stop more)

-- AN IMAGE THAT IS OPENED, of whose bytes so many are on the disk

opened_bytes : (b : List ℕ) (xs : List Placed) (s : Stop) → Reads 0 b xs s → Bytes (ends_in xs) b (map object_in xs) []
opened_bytes b xs s r =
    let c : Cut 0 b xs s = cut_to_last 0 b xs s r in
    let size : 0 + c.count ≡ length (take c.count b) = omega (arith, length-take-le c.count b c.within) in (
      take c.count b,
      drop c.count b,
      sym (take-append-drop c.count b),
      c.holds,
      ([], s, [], subst (λ (k : ℕ). Reads k (drop c.count b) [] s) size c.rest, refl),
    )

pub opened_holds : (f : FileValue) (trusted : ℕ) (ends : List ℕ) (entries : List IndexedObject) (xs : List Placed) (s : Stop) → IsKnown (trusted_to trusted) f → Reads 0 f.contents xs s
    → entries ≡ map indexed xs → ends ≡ ends_within trusted (map end_of_entry entries)
    → Holds f (trusted_to trusted) ends (take (length ends) (map object_in xs)) (drop (length ends) (map object_in xs) ++ [])
opened_holds f trusted ends entries xs s is reads same are =
    let all : List ℕ = ends_in xs in
    let entry_ends : map end_of_entry entries ≡ ends_in xs = ap (map end_of_entry) same in
    let whole : take (length (ends_in xs)) (ends_in xs) ≡ ends_in xs = take_all (length (ends_in xs)) (ends_in xs) (omega arith) in
    let are' : ends ≡ ends_within trusted (take (length (ends_in xs)) (ends_in xs)) = are ∙ ap (ends_within trusted) (entry_ends ∙ sym whole) in
    holds_by f (trusted_to trusted) ends (take (length ends) (map object_in xs)) (drop (length ends) (map object_in xs) ++ []) is
    (shrunk_bytes f.contents (ends_in xs) ends (map object_in xs) [] trusted (length (ends_in xs)) (opened_bytes f.contents xs s reads) (omega arith) are')
