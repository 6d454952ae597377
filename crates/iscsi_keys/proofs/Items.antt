-- An item that is written is read again.
use Rattle.std.proofs.Common.{◌≡◌, ℕ, ◌+◌, ◌&&◌, Bool, ltb, eqb, not, true, false, List, [], ◌∷◌, ◌++◌, length, take, drop, Option, Some, refl, sym, ap, ◌∙◌, append_assoc, length-append, arith}
use Rattle.std.specs.List.{position, position_or_len, list_all}
use Rattle.std.proofs.lemmas.Bool.{and_parts, lt-ltb, eq-eqb}
use Rattle.std.proofs.lemmas.List.{take_at, drop_at}
use Rattle.iscsi_keys.specs.Texts.{HasNo, Pair, item_bytes, item_at, pair_at, first_item}

-- the place of a byte behind others
place_behind : (b : ℕ) (front rest : List ℕ) → HasNo b front → position_or_len (λ c. eqb c b) (front ++ b ∷ rest) ≡ length front
place_behind b [] rest h = let same : eqb b b ≡ true = eq-eqb b b refl in rw same refl
place_behind b (c ∷ front) rest h =
    let parts = and_parts (not (eqb c b)) (list_all (λ d. not (eqb d b)) front) h in
    rw (parts.0, place_behind b front rest parts.1) (omega arith)

found_behind : (b : ℕ) (front rest : List ℕ) → HasNo b front → position (λ c. eqb c b) (front ++ b ∷ rest) ≡ Some (length front)
found_behind b front rest h =
    let place = place_behind b front rest h in
    let within : ltb (length front) (length (front ++ b ∷ rest)) ≡ true = lt-ltb _ _ (omega (arith, length-append front (b ∷ rest))) in
    rw (place, within) refl

-- what stands before such a byte, and behind it
before : (b : ℕ) (front rest : List ℕ) → take (length front) (front ++ b ∷ rest) ≡ front
before b front rest = take_at front (b ∷ rest) (length front) refl

behind : (b : ℕ) (front rest : List ℕ) → drop (length front + 1) (front ++ b ∷ rest) ≡ rest
behind b front rest =
    ap (drop (length front + 1)) (sym (append_assoc front (b ∷ []) rest)) ∙ drop_at (front ++ b ∷ []) rest (length front + 1) (omega (arith, length-append front (b ∷ [])))

-- no NUL in an item
both : (b : ℕ) (xs ys : List ℕ) → HasNo b xs → HasNo b ys → HasNo b (xs ++ ys)
both b [] ys h i = i
both b (x ∷ xs) ys h i =
    let parts = and_parts (not (eqb x b)) (list_all (λ d. not (eqb d b)) xs) h in
    rw (parts.0, both b xs ys parts.1 i) refl

whole : (key value rest : List ℕ) → item_bytes key value ++ rest ≡ (key ++ 61 ∷ value) ++ 0 ∷ rest
whole key value rest = simp append_assoc

-- an item isn't of NULs alone
and_false : (b : Bool) → (b && false) ≡ false
and_false true = refl
and_false false = refl

not_nuls : (key rest : List ℕ) → list_all (λ c. eqb c 0) (key ++ 61 ∷ rest) ≡ false
not_nuls [] rest = refl
not_nuls (k ∷ key) rest = ap (λ (b : Bool). eqb k 0 && b) (not_nuls key rest) ∙ and_false (eqb k 0)

item_there : (text : List ℕ) → list_all (λ c. eqb c 0) text ≡ false → first_item text ≡ item_at (position (λ c. eqb c 0) text) text
item_there text some = rw some refl

pub item_again : (key value rest : List ℕ) → HasNo 0 key → HasNo 61 key → HasNo 0 value → first_item (item_bytes key value ++ rest) ≡ Pair key value rest
item_again key value rest h i j =
    let item : List ℕ = key ++ 61 ∷ value in
    let clean : HasNo 0 (key ++ 61 ∷ value) = both 0 key (61 ∷ value) h j in
    ap first_item (whole key value rest)
    ∙ item_there ((key ++ 61 ∷ value) ++ 0 ∷ rest)
    (ap (list_all (λ c. eqb c 0)) (append_assoc key (61 ∷ value) (0 ∷ rest)) ∙ not_nuls key (value ++ 0 ∷ rest))
    ∙ ap (λ (o : Option ℕ). item_at o ((key ++ 61 ∷ value) ++ 0 ∷ rest)) (found_behind 0 (key ++ 61 ∷ value) rest clean)
    ∙ ap (λ (xs : List ℕ). pair_at (position (λ c. eqb c 61) xs) xs (drop (length (key ++ 61 ∷ value) + 1) ((key ++ 61 ∷ value) ++ 0 ∷ rest))) (before 0 (key ++ 61 ∷ value) rest)
    ∙ ap (λ (xs : List ℕ). pair_at (position (λ c. eqb c 61) (key ++ 61 ∷ value)) (key ++ 61 ∷ value) xs) (behind 0 (key ++ 61 ∷ value) rest)
    ∙ ap (λ (o : Option ℕ). pair_at o (key ++ 61 ∷ value) rest) (found_behind 61 key value i)
    ∙ ap (λ (xs : List ℕ). Pair xs (drop (length key + 1) (key ++ 61 ∷ value)) rest) (before 61 key value)
    ∙ ap (λ (xs : List ℕ). Pair key xs rest) (behind 61 key value)
