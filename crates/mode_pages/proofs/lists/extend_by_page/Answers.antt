use Rattle.std.proofs.Common.{◌≡◌, ℕ, ◌-◌, ◌≤◌, List, ◌∷◌, [], ◌++◌, length, take, replicate, arith, append_assoc}
use Rattle.std.proofs.lemmas.List.{take-replicate}
use Rattle.mode_pages.proofs.lists.extend_by_page.Goals as goal

-- three parts, one after another
grown : (old l1 l2 l3 fields zeros rest : List ℕ) (code n : ℕ) → l1 ≡ old ++ code ∷ n ∷ [] → l2 ≡ l1 ++ fields → l3 ≡ l2 ++ zeros → zeros ≡ rest
    → l3 ≡ old ++ code ∷ n ∷ (fields ++ rest)
grown old l1 l2 l3 fields zeros rest code n e1 e2 e3 e = rw (e3, e2, e1, e) (simp append_assoc)

-- a part of many zeros
zeros_are : (a n f : ℕ) → a ≡ n → f ≤ n → n ≤ 30 → take {A = ℕ} (a - f) (replicate 30 0) ≡ replicate (n - f) 0
zeros_are a n f e within most = let few : n - f ≤ 30 = omega arith in rw e (take-replicate (n - f) 30 0 few)

pub returns : goal.returns
returns c =
    grown _ _ _ _ _ _ _ _ _ c.in_ok-extend_from_slice.ensures.items c.in_ok-extend_from_slice-2.ensures.items c.in_ok-extend_from_slice-3.ensures.items
    (zeros_are c.from.result c.args.page_length (length c.args.fields.now) c.from.ensures c.requires.long_enough c.requires.short)
