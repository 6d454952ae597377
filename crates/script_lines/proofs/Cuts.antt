-- Text cut at the first of a byte.
use Rattle.std.proofs.Common.{◌≡◌, ℕ, ◌+◌, ◌<◌, ◌≤◌, Bool, true, false, cond, ltb, eqb, is_some, not, ◌-◌, List, [], ◌∷◌, length, take, drop, Option, Some, None, refl, sym, arith}
use Rattle.std.specs.List.{position, position_or_len, slice_split, onto_first}
use Rattle.std.proofs.lemmas.Bool.{ltb-true, ltb-false}
use Rattle.std.proofs.lemmas.List.Sums.{fails_before_first}
use Rattle.std.proofs.lemmas.List.Splits.{slice_split_none, slice_split_first}
use Rattle.std.proofs.lemmas.List.{take_all, length-drop}
use Rattle.std.specs.Bool.{MatchBool}
use denote.Ref.{Bor}
use Rattle.script_lines.specs.Text.{pieces, pieces_after, IsNotEmpty}
use Rattle.script_lines.specs.Lines.{words_in}

some_at : (b : Bool) (n i : ℕ) → cond b (Some n) None ≡ Some i → (b ≡ true) × (n ≡ i)
some_at true n i e = (refl, cc)
some_at false n i e = absurd cc

none_at : (b : Bool) (n : ℕ) → cond b (Some n) None ≡ None → b ≡ false
none_at true n e = absurd cc
none_at false n e = refl

-- no such byte: the text is the one piece
pub cut_nowhere : (at : ℕ) (text : List ℕ) → None ≡ position (λ b. eqb b at) text → pieces at text ≡ text ∷ []
unfolding pieces
cut_nowhere at text e =
    let p : ℕ → Bool = λ b. eqb b at in
    let far : length text ≤ position_or_len p text = ltb-false _ _ (none_at (ltb (position_or_len p text) (length text)) (position_or_len p text) (sym e)) in
    slice_split_none p text (λ k d lt. fails_before_first p text k d (omega arith))

-- the first one stands at i
pub cut_there : (at : ℕ) (text : List ℕ) (i : ℕ) → Some i ≡ position (λ b. eqb b at) text → (i < length text) × (pieces at text ≡ take i text ∷ pieces at (drop (i + 1) text))
unfolding pieces
cut_there at text i e =
    let p : ℕ → Bool = λ b. eqb b at in
    let found = some_at (ltb (position_or_len p text) (length text)) (position_or_len p text) i (sym e) in
    let near : position_or_len p text < length text = ltb-true _ _ found.0 in
    (omega (arith, near, found.1), rw (← found.1) (slice_split_first p text 0 near))

onto_some : (x : ℕ) (parts : List (List ℕ)) → IsNotEmpty (onto_first x parts)
onto_some x [] = (x ∷ [], [], refl)
onto_some x (part ∷ parts) = (x ∷ part, parts, refl)

one_of : (b : Bool) (x : ℕ) (parts : List (List ℕ)) → IsNotEmpty (cond b ([] ∷ parts) (onto_first x parts))
one_of true x parts = ([], parts, refl)
one_of false x parts = onto_some x parts

-- a text has a piece
pub has_piece : (at : ℕ) (text : List ℕ) → IsNotEmpty (pieces at text)
unfolding pieces
has_piece at [] = ([], [], refl)
has_piece at (x ∷ xs) = one_of (eqb x at) x (slice_split (λ b. eqb b at) xs)

-- the piece at the end of what is taken whole
pub cut_rest : (at : ℕ) (text : List ℕ) (i : ℕ) → Some i ≡ position (λ b. eqb b at) text → pieces at text ≡ take i text ∷ pieces at (take (length text - (i + 1)) (drop (i + 1) text))
cut_rest at text i e =
    let there = cut_there at text i e in
    let whole : take (length text - (i + 1)) (drop (i + 1) text) ≡ drop (i + 1) text = take_all _ _ (omega (arith, length-drop (i + 1) text)) in
    rw whole there.1

-- what is_none says of the words that are left
pub ended : (words : Option (Bor (List ℕ))) (b : Bool) → is_some words ≡ not b → MatchBool b (pieces_after 32 words ≡ []) (IsNotEmpty (pieces_after 32 words))
ended None true e = refl
ended None false e = absurd cc
ended (Some rest) true e = absurd cc
ended (Some rest) false e = has_piece 32 rest.now

five : (a b c d : List ℕ) (parts : List (List ℕ)) → IsNotEmpty parts → None ≡ words_in (a ∷ b ∷ c ∷ d ∷ parts)
five a b c d parts h = rw h.2 refl

-- a line whose fourth word is not its last has five words or more, too many for a command
pub too_many_words : (w1 r1 r2 r3 r4 w2 w3 w4 : List ℕ) → pieces 32 r1 ≡ w2 ∷ pieces 32 r2
    → pieces 32 r2 ≡ w3 ∷ pieces 32 r3 → pieces 32 r3 ≡ w4 ∷ pieces 32 r4 → None ≡ words_in (w1 ∷ pieces 32 r1)
too_many_words w1 r1 r2 r3 r4 w2 w3 w4 e2 e3 e4 = rw (e2, e3, e4) (five w1 w2 w3 w4 (pieces 32 r4) (has_piece 32 r4))
