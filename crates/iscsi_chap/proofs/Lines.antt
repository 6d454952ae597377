-- A loop over the lines of a secrets file.
use Rattle.std.proofs.Common.{◌≡◌, ℕ, ◌+◌, ◌-◌, ◌<◌, zero, suc, List, Option, Some, None, Result, Ok, Err, refl, sym, ap, ◌∙◌, arith}
use Rattle.iscsi_chap.specs.Secrets.{EntryValue, NumberedEntry, line_of, rest_of, line_behind, by_line, entries_within, TakesLine, FailsAt, IsFault}
use Rattle.iscsi_chap.specs.declared.secrets_fault.LineFault.{LineFault}
use Rattle.iscsi_chap.specs.declared.secrets_fault.SecretsFault.{SecretsFault}
use Rattle.iscsi_chap.specs.declared.secrets_fault.SecretsFault.TheVariants.{Line, NoMemory}

step_by : (others : List NumberedEntry → Result (List NumberedEntry) (ℕ × LineFault)) (n : ℕ) (before new : List NumberedEntry) (said : Result (Option EntryValue) LineFault)
    (whole : Result (List NumberedEntry) (ℕ × LineFault)) → TakesLine n before new said → by_line others n before said ≡ whole → others new ≡ whole
step_by others n before new (Ok None) whole took h = ap others took ∙ h
step_by others n before new (Ok (Some e)) whole took h = ap others took ∙ h
step_by others n before new (Err f) whole took h = absurd took

stop_by : (others : List NumberedEntry → Result (List NumberedEntry) (ℕ × LineFault)) (n : ℕ) (before : List NumberedEntry) (e : SecretsFault) (said : Result (Option EntryValue) LineFault)
    (whole : Result (List NumberedEntry) (ℕ × LineFault)) → FailsAt n e said → by_line others n before said ≡ whole → IsFault e whole
stop_by others n before NoMemory said whole failed h = tt
stop_by others n before (Line m f) said whole failed h = sym h ∙ rw (failed.1, failed.0) refl

one_fewer : (most i : ℕ) → i < most → most - i ≡ suc (most - (i + 1))
one_fewer most i h = omega arith

here : (most i : ℕ) (before : List NumberedEntry) (text : List ℕ) (whole : Result (List NumberedEntry) (ℕ × LineFault)) → i < most
    → entries_within (most - i) (i + 1) before (Some text) ≡ whole
    → by_line (λ (es : List NumberedEntry). entries_within (most - (i + 1)) (i + 1 + 1) es (rest_of text)) (i + 1) before (line_behind before (line_of text)) ≡ whole
here most i before text whole h so_far = ap (λ (k : ℕ). entries_within k (i + 1) before (Some text)) (sym (one_fewer most i h)) ∙ so_far

-- a line was taken
pub line_taken : (most i : ℕ) (before new : List NumberedEntry) (text : List ℕ) (whole : Result (List NumberedEntry) (ℕ × LineFault)) → i < most
    → TakesLine (i + 1) before new (line_behind before (line_of text)) → entries_within (most - i) (i + 1) before (Some text) ≡ whole
    → entries_within (most - (i + 1)) (i + 1 + 1) new (rest_of text) ≡ whole
line_taken most i before new text whole h took so_far =
    step_by (λ (es : List NumberedEntry). entries_within (most - (i + 1)) (i + 1 + 1) es (rest_of text)) (i + 1) before new (line_behind before (line_of text)) whole took
    (here most i before text whole h so_far)

-- a line has a fault
pub line_fails : (most i : ℕ) (before : List NumberedEntry) (e : SecretsFault) (text : List ℕ) (whole : Result (List NumberedEntry) (ℕ × LineFault)) → i < most
    → FailsAt (i + 1) e (line_behind before (line_of text)) → entries_within (most - i) (i + 1) before (Some text) ≡ whole → IsFault e whole
line_fails most i before e text whole h failed so_far =
    stop_by (λ (es : List NumberedEntry). entries_within (most - (i + 1)) (i + 1 + 1) es (rest_of text)) (i + 1) before e (line_behind before (line_of text)) whole failed
    (here most i before text whole h so_far)

-- no line is left
pub lines_end : (most n : ℕ) (before : List NumberedEntry) (whole : Result (List NumberedEntry) (ℕ × LineFault)) → entries_within most n before None ≡ whole → whole ≡ Ok before
lines_end zero n before whole h = sym h
lines_end (suc most) n before whole h = sym h
