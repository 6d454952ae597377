-- A loop over lines.
use Rattle.std.proofs.Common.{◌≡◌, ℕ, ◌+◌, ◌<◌, ◌≤◌, length, arith, List, [], ◌∷◌, ◌++◌, Option, Some, None, Result, Ok, Err, refl, sym, ap, subst, ◌∙◌, append_assoc}
use Rattle.script_input.specs.declared.line_fault.LineFault.{LineFault}
use Rattle.script_input.specs.declared.script_fault.ScriptFault.{ScriptFault}
use Rattle.script_input.specs.declared.script_fault.ScriptFault.TheVariants as fault
use Rattle.std.proofs.lemmas.List.{append-nil}
use Rattle.std.specs.Prelude.{IfSome, MatchOption}
use denote.Ref.{Bor}
use Rattle.script_lines.specs.Text.{pieces_after}
use Rattle.script_lines.specs.Script.{lines_in, with_front, by_line, TakesLine, FailsAt, ScriptFails}

onto : {A : Type 0} (front : List A) (e : A) (others : Result (List A) (ℕ × LineFault)) → with_front front (with_front (e ∷ []) others) ≡ with_front (front ++ e ∷ []) others
onto {A} front e (Ok es) = ap (λ (xs : List A). Ok xs) (sym (append_assoc front (e ∷ []) es))
onto front e (Err x) = refl

step_by : {A : Type 0} (front front' : List A) (n : ℕ) (read : Result (Option A) LineFault) (others total : Result (List A) (ℕ × LineFault))
    → TakesLine front front' read → with_front front (by_line n read others) ≡ total → with_front front' others ≡ total
step_by front front' n (Ok None) others total took h = rw took h
step_by front front' n (Ok (Some e)) others total took h = rw took (sym (onto front e others) ∙ h)
step_by front front' n (Err f) others total took h = absurd took

-- one line further
pub step : {A : Type 0} (says : List ℕ → Result (Option A) LineFault) (front front' : List A) (n : ℕ) (left : List (List ℕ)) (line : List ℕ) (lines : List (List ℕ)) (total : Result (List A) (ℕ × LineFault))
    → left ≡ line ∷ lines → TakesLine front front' (says line) → with_front front (lines_in says n left) ≡ total → with_front front' (lines_in says (n + 1) lines) ≡ total
step says front front' n left line lines total cut took h =
    step_by front front' n (says line) (lines_in says (n + 1) lines) total took (subst (λ (ls : List (List ℕ)). with_front front (lines_in says n ls) ≡ total) cut h)

stop_by : {A : Type 0} (front : List A) (n : ℕ) (e : ScriptFault) (read : Result (Option A) LineFault) (others total : Result (List A) (ℕ × LineFault))
    → FailsAt n e read → with_front front (by_line n read others) ≡ total → ScriptFails e total
stop_by front n fault.NoMemory read others total failed h = tt
stop_by front n (fault.Line m f) read others total failed h = sym h ∙ rw (failed.1, failed.0) refl

-- the first faulty line
pub stop : {A : Type 0} (says : List ℕ → Result (Option A) LineFault) (front : List A) (n : ℕ) (e : ScriptFault) (left : List (List ℕ)) (line : List ℕ) (lines : List (List ℕ)) (total : Result (List A) (ℕ × LineFault))
    → left ≡ line ∷ lines → FailsAt n e (says line) → with_front front (lines_in says n left) ≡ total → ScriptFails e total
stop says front n e left line lines total cut failed h =
    stop_by front n e (says line) (lines_in says (n + 1) lines) total failed (subst (λ (ls : List (List ℕ)). with_front front (lines_in says n ls) ≡ total) cut h)

-- no line is left
pub done : {A : Type 0} (says : List ℕ → Result (Option A) LineFault) (front : List A) (n : ℕ) (total : Result (List A) (ℕ × LineFault)) → with_front front (lines_in says n []) ≡ total → total ≡ Ok front
done {A} says front n total h = sym h ∙ ap (λ (xs : List A). Ok xs) (append-nil front)

-- nothing is read yet
pub start : {A : Type 0} (others : Result (List A) (ℕ × LineFault)) → with_front [] others ≡ others
start (Ok es) = refl
start (Err e) = refl

-- nothing is left
pub ended : {A : Type 0} (says : List ℕ → Result (Option A) LineFault) (front : List A) (n : ℕ) (rest : Option (Bor (List ℕ))) (total : Result (List A) (ℕ × LineFault)) → rest ≡ None
    → with_front front (lines_in says n (pieces_after 10 rest)) ≡ total → total ≡ Ok front
ended says front n None total e h = done says front n total h
ended says front n (Some r) total e h = absurd cc

-- the number of lines so far and the bytes that are left are at most the text's bytes
pub counts : (after : Option (Bor (List ℕ))) (n m total : ℕ) → IfSome after (λ r. length r.now < m) → n + m ≤ total
    → MatchOption after (Unit {0}) (λ r. n + 1 + length r.now ≤ total)
counts None n m total h k = tt
counts (Some r) n m total h k = omega (arith, h, k)

pub at_some : (rest : Option (Bor (List ℕ))) (r : Bor (List ℕ)) (n total : ℕ) → rest ≡ Some r
    → MatchOption rest (Unit {0}) (λ r. n + length r.now ≤ total) → n + length r.now ≤ total
at_some rest r n total e h = rw e at h
