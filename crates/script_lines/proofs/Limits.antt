-- What a host's script gives is within the limits of its words.
use Rattle.std.proofs.Common.{◌≡◌, ℕ, ◌+◌, ◌<◌, ◌≤◌, Bool, true, false, cond, ltb, leb, eqb, ◌&&◌, List, [], ◌∷◌, length, get_or, Option, Some, None, Result, Ok, Err, refl, subst, arith}
use Rattle.std.specs.Prelude.{All, codes}
use Rattle.std.specs.Str.{bytes_eq}
use Rattle.std.proofs.lemmas.Bool.{and_parts, ltb-true, leb-true}
use Rattle.std.proofs.lemmas.List.Elements.{All-nil, All-cons}
use Rattle.scsi_cdb.specs.declared.profile.Profile.{Profile}
use Rattle.hex.specs.Hex.{decode_of}
use Rattle.script_input.specs.declared.line_fault.LineFault.{LineFault}
use Rattle.script_input.specs.declared.line_fault.LineFault.TheVariants.{BadHex, TooLong}
use Rattle.frames.specs.Limits.{command_data_limit}
use Rattle.script_lines.specs.Limits.{line_limit}
use Rattle.script_lines.specs.Lines.{CommandWords, words_in, bytes_in, sole_unit_in, some_said, ◌>>=◌}
use Rattle.script_lines.specs.Requests.{ClientRequestValue, command_request_in, reset_request_in, request_in, request_line_in, IsWithinLimits}
use Rattle.script_lines.specs.Script.{lines_in, by_line}
use Rattle.script_lines.specs.Text.{pieces}
use Rattle.script_lines.specs.Words.{hex_bytes, hex_in, within, unit_in}

-- what was read has a property, unless it was a fault
abbrev pub Reads : {A E : Type 0} → (A → Type 0) → Result A E → Type 0
Reads P (Ok x) = P x
Reads P (Err e) = Unit {0}

abbrev pub Has : {A : Type 0} → (A → Type 0) → Option A → Type 0
Has P None = Unit {0}
Has P (Some x) = P x

reads_any : {A E : Type 0} (r : Result A E) → Reads (λ x. Unit {0}) r
reads_any (Ok x) = tt
reads_any (Err e) = tt

reads_then : {A B : Type 0} (P : A → Type 0) (Q : B → Type 0) (r : Result A LineFault) (f : A → Result B LineFault) → Reads P r
    → ((x : A) → P x → Reads Q (f x)) → Reads Q (r >>= f)
reads_then P Q (Ok x) f p next = next x p
reads_then P Q (Err e) f p next = tt

reads_either : {A : Type 0} (Q : A → Type 0) (b : Bool) (r s : Result A LineFault) → Reads Q r → Reads Q s → Reads Q (cond b r s)
reads_either Q true r s p q = p
reads_either Q false r s p q = q

abbrev pub IsSized : ℕ → List ℕ → Type 0
IsSized limit bytes = (0 < length bytes) × (length bytes ≤ limit)

sized_if : (limit : ℕ) (bytes : List ℕ) (b : Bool) → (ltb 0 (length bytes) && leb (length bytes) limit) ≡ b → Reads (IsSized limit)
    (cond b (Ok bytes) (Err BadHex))
sized_if limit bytes true e =
    let both = and_parts (ltb 0 (length bytes)) (leb (length bytes) limit) e in
    (ltb-true _ _ both.0, leb-true _ _ both.1)
sized_if limit bytes false e = tt

sized_by : (limit : ℕ) (read : Option (List ℕ)) → Reads (IsSized limit) (within limit read)
sized_by limit None = tt
sized_by limit (Some bytes) = sized_if limit bytes _ refl

hex_sized : (limit : ℕ) (word : List ℕ) → Reads (IsSized limit) (hex_in limit word)
unfolding hex_in
hex_sized limit word = sized_by limit (hex_bytes (decode_of word))

at_most_by : (pr : Profile) (r : Result (List ℕ) LineFault) → Reads (IsSized (command_data_limit pr)) r → Reads (λ bytes. length bytes ≤ (command_data_limit pr)) r
at_most_by pr (Ok bytes) h = h.1
at_most_by pr (Err e) h = tt

data_at_most : (pr : Profile) (word : Option (List ℕ)) → Reads (λ bytes. length bytes ≤ (command_data_limit pr)) (bytes_in pr word)
data_at_most pr None = omega arith
data_at_most pr (Some word) = at_most_by pr (hex_in (command_data_limit pr) word) (hex_sized (command_data_limit pr) word)

command_within : (pr : Profile) (words : Option CommandWords) → Reads (IsWithinLimits pr) (command_request_in pr words)
command_within pr None = tt
command_within pr (Some w) =
    reads_then (λ lun. Unit {0}) (IsWithinLimits pr) (unit_in w.lun) _ (reads_any (unit_in w.lun))
    (λ lun any. reads_then (IsSized 16) (IsWithinLimits pr) (hex_in 16 w.cdb) _ (hex_sized 16 w.cdb)
    (λ cdb sized. reads_then (λ bytes. length bytes ≤ (command_data_limit pr)) (IsWithinLimits pr) (bytes_in pr w.bytes) _ (data_at_most pr w.bytes)
    (λ bytes short. (sized.0, sized.1, short))))

reset_within : (pr : Profile) (words : List (List ℕ)) → Reads (IsWithinLimits pr) (reset_request_in words)
reset_within pr words = reads_then (λ lun. Unit {0}) (IsWithinLimits pr) (sole_unit_in words) _ (reads_any (sole_unit_in words)) (λ lun any. tt)

request_within : (pr : Profile) (words : List (List ℕ)) → Reads (IsWithinLimits pr) (request_in pr words)
request_within pr [] = tt
request_within pr (first ∷ words) =
    reads_either (IsWithinLimits pr) (bytes_eq first (codes "reset")) (reset_request_in words)
    (command_request_in pr (words_in ([] ∷ first ∷ words)))
    (reset_within pr words) (command_within pr (words_in ([] ∷ first ∷ words)))

some_within : (pr : Profile) (r : Result ClientRequestValue LineFault) → Reads (IsWithinLimits pr) r → Reads (Has (IsWithinLimits pr)) (some_said r)
some_within pr (Ok x) h = h
some_within pr (Err e) h = tt

line_within : (pr : Profile) (line : List ℕ) → Reads (Has (IsWithinLimits pr)) (request_line_in pr line)
unfolding request_line_in
line_within pr line =
    reads_either (Has (IsWithinLimits pr)) (ltb (line_limit pr) (length line)) (Err TooLong) _ tt
    (reads_either (Has (IsWithinLimits pr)) (eqb (length line) 0) (Ok None) _ tt
    (reads_either (Has (IsWithinLimits pr)) (eqb (get_or line 0 0) 35) (Ok None) _ tt
    (some_within pr (request_in pr (pieces 32 line)) (request_within pr (pieces 32 line)))))

one_line : (pr : Profile) (n : ℕ) (read : Result (Option ClientRequestValue) LineFault) (others : Result (List ClientRequestValue) (ℕ × LineFault)) → Reads
    (Has (IsWithinLimits pr)) read
    → Reads (All (IsWithinLimits pr)) others → Reads (All (IsWithinLimits pr)) (by_line n read others)
one_line pr n (Err fault) others one more = tt
one_line pr n (Ok None) others one more = more
one_line pr n (Ok (Some said)) (Ok saids) one more = All-cons (IsWithinLimits pr) said saids one more
one_line pr n (Ok (Some said)) (Err e) one more = tt

lines_within : (pr : Profile) (n : ℕ) (lines : List (List ℕ)) → Reads (All (IsWithinLimits pr)) (lines_in (request_line_in pr) n lines)
lines_within pr n [] = All-nil (IsWithinLimits pr)
lines_within pr n (line ∷ lines) =
    one_line pr n (request_line_in pr line) (lines_in (request_line_in pr) (n + 1) lines) (line_within pr line) (lines_within pr (n + 1) lines)

-- each request of a script
pub requests_within : (pr : Profile) (text : List ℕ) (requests : List ClientRequestValue) → lines_in (request_line_in pr) 1 (pieces 10 text) ≡ Ok requests → All
    (IsWithinLimits pr) requests
requests_within pr text requests read = subst (Reads (All (IsWithinLimits pr))) read (lines_within pr 1 (pieces 10 text))
