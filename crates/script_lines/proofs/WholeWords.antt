-- The words of a command where the fourth is taken as all that stands behind the third.
use Rattle.std.proofs.Common.{◌≡◌, ℕ, Bool, true, false, eqb, List, [], ◌∷◌, Option, Some, None, Result, Ok, Err, refl, sym, ap, subst, ◌∙◌, ◌⊎◌, inl, inr}
use Rattle.std.specs.Prelude.{MatchOption}
use Rattle.std.specs.Option.{option_map}
use Rattle.std.specs.List.{join_with_byte}
use Rattle.std.proofs.lemmas.List.Splits.{join_with_byte-slice_split, slice_split_none}
use denote.Ref.{Bor}
use Rattle.frames.specs.Limits.{command_data_limit}
use Rattle.scsi_cdb.specs.declared.profile.Profile.{Profile}
use Rattle.script_input.specs.declared.line_fault.LineFault.{LineFault}
use Rattle.script_input.specs.declared.line_fault.LineFault.TheVariants.{WordCount}
use Rattle.script_lines.specs.declared.line.LineError.{LineError}
use Rattle.script_lines.specs.declared.line.LineError.TheVariants as error
use Rattle.script_lines.specs.declared.line.Words.{Words}
use Rattle.script_lines.specs.Lines.{CommandWords, Said, bytes_in, command_in, some_said, words_cut, words_in, words_seen, ◌>>=◌}
use Rattle.script_lines.specs.Requests.{ClientRequestValue, command_request_in}
use Rattle.script_lines.specs.Script.{TakesLine}
use Rattle.script_lines.specs.Text.{pieces, pieces_after}
use Rattle.script_lines.specs.Words.{Fails, hex_in, unit_in, nexus_in}
use Rattle.script_lines.proofs.Cuts.{has_piece}
use Rattle.script_lines.proofs.ShortLines.{digits_free, hex_digits}

-- a word of hexadecimal digits is cut nowhere
whole_word : (limit : ℕ) (word bytes : List ℕ) → hex_in limit word ≡ Ok bytes → pieces 32 word ≡ word ∷ []
unfolding pieces
whole_word limit word bytes h = slice_split_none (λ b. eqb b 32) word (digits_free word (hex_digits _ limit word bytes refl h))

-- data that are read are one word
words_whole : (profile : Profile) (nexus lun cdb : List ℕ) (others : Option (Bor (List ℕ))) (bytes : List ℕ) → bytes_in profile (option_map (λ (b : Bor (List ℕ)). b.now) others) ≡ Ok bytes
    → words_in (nexus ∷ lun ∷ cdb ∷ pieces_after 32 others) ≡ Some (record { nexus = nexus; lun = lun; cdb = cdb; bytes = option_map (λ (b : Bor (List ℕ)). b.now) others })
words_whole profile nexus lun cdb None bytes h = refl
words_whole profile nexus lun cdb (Some rest) bytes h =
    ap (λ (parts : List (List ℕ)). words_in (nexus ∷ lun ∷ cdb ∷ parts)) (whole_word (command_data_limit profile) rest.now bytes h)

-- the parts of what is read in turn
first_read : {A B : Type 0} (r : Result A LineFault) (f : A → Result B LineFault) (y : B) → (r >>= f) ≡ Ok y → (x : A) × (f x ≡ Ok y)
first_read (Ok x) f y h = (x, h)
first_read (Err e) f y h = absurd cc

is_read : {A B : Type 0} (r : Result A LineFault) (f : A → Result B LineFault) (y : B) → (r >>= f) ≡ Ok y → (x : A) × (r ≡ Ok x)
is_read (Ok x) f y h = (x, refl)
is_read (Err e) f y h = absurd cc

request_bytes : (profile : Profile) (w : CommandWords) (value : ClientRequestValue) → command_request_in profile (Some w) ≡ Ok value → (bytes : List ℕ) × (bytes_in profile w.bytes ≡ Ok bytes)
request_bytes profile w value h =
    let behind_unit = first_read (unit_in w.lun) _ value h in
    let behind_cdb = first_read (hex_in 16 w.cdb) _ value behind_unit.1 in
    is_read (bytes_in profile w.bytes) _ value behind_cdb.1

command_bytes : (profile : Profile) (w : CommandWords) (value : Said) → command_in profile (Some w) ≡ Ok value → (bytes : List ℕ) × (bytes_in profile w.bytes ≡ Ok bytes)
command_bytes profile w value h =
    let behind_nexus = first_read (nexus_in w.nexus) _ value h in
    let behind_unit = first_read (unit_in w.lun) _ value behind_nexus.1 in
    let behind_cdb = first_read (hex_in 16 w.cdb) _ value behind_unit.1 in
    is_read (bytes_in profile w.bytes) _ value behind_cdb.1

-- what words say that are taken as no more than four, they say where they are cut
pub request_whole : (profile : Profile) (w : Words) (value : ClientRequestValue) → command_request_in profile (Some (words_seen w)) ≡ Ok value
    → command_request_in profile (words_cut w) ≡ Ok value
request_whole profile w value h =
    let read = request_bytes profile (words_seen w) value h in
    ap (command_request_in profile) (words_whole profile w.nexus.now w.lun.now w.cdb.now w.«data» read.0 read.1) ∙ h

taken_by : (r : Result Said LineFault) (old new : List Said) → TakesLine old new (some_said r) → (value : Said) × (r ≡ Ok value)
taken_by (Ok value) old new h = (value, refl)
taken_by (Err e) old new h = absurd h

pub command_whole : (profile : Profile) (w : Words) (old new : List Said) → TakesLine old new (some_said (command_in profile (Some (words_seen w))))
    → TakesLine old new (some_said (command_in profile (words_cut w)))
command_whole profile w old new took =
    let said = taken_by (command_in profile (Some (words_seen w))) old new took in
    let read = command_bytes profile (words_seen w) said.0 said.1 in
    subst (λ words. TakesLine old new (some_said (command_in profile words))) (sym (words_whole profile w.nexus.now w.lun.now w.cdb.now w.«data» read.0 read.1)) took

-- TOO MANY WORDS

-- an error of words, once it is known whether a fifth one stands behind them
fault_by : {A : Type 0} (says : Option CommandWords → Result A LineFault) (words : Option CommandWords) (w : CommandWords) (e e' : LineError) → says None ≡ Err WordCount
    → (words ≡ None) ⊎ (words ≡ Some w) → MatchOption words (e' ≡ error.Fault WordCount) (λ _. e' ≡ e) → Fails e (says (Some w)) → Fails e' (says words)
fault_by says None w e e' none (inl is) found failed = rw found none
fault_by says None w e e' none (inr is) found failed = absurd cc
fault_by says (Some v) w e e' none (inl is) found failed = absurd cc
fault_by says (Some v) w e e' none (inr is) found failed = rw (found, is) failed

-- what is cut nowhere is its only part
sole_part : (rest part : List ℕ) → pieces 32 rest ≡ part ∷ [] → part ≡ rest
unfolding pieces
sole_part rest part is = sym (ap (join_with_byte 32) is) ∙ join_with_byte-slice_split 32 rest

one_or_more : (nexus lun cdb rest : List ℕ) (parts : List (List ℕ)) → pieces 32 rest ≡ parts
    → (words_in (nexus ∷ lun ∷ cdb ∷ parts) ≡ None) ⊎ (words_in (nexus ∷ lun ∷ cdb ∷ parts) ≡ Some (record { nexus = nexus; lun = lun; cdb = cdb; bytes = Some rest }))
one_or_more nexus lun cdb rest [] is = absurd (let some = sym is ∙ (has_piece 32 rest).2 in cc)
one_or_more nexus lun cdb rest (part ∷ []) is = inr (ap (λ (word : List ℕ). Some (record { nexus = nexus; lun = lun; cdb = cdb; bytes = Some word })) (sole_part rest part is))
one_or_more nexus lun cdb rest (part ∷ next ∷ parts) is = inl refl

some_or_none : (nexus lun cdb : List ℕ) (others : Option (Bor (List ℕ))) → (words_in (nexus ∷ lun ∷ cdb ∷ pieces_after 32 others) ≡ None)
    ⊎ (words_in (nexus ∷ lun ∷ cdb ∷ pieces_after 32 others) ≡ Some (record { nexus = nexus; lun = lun; cdb = cdb; bytes = option_map (λ (b : Bor (List ℕ)). b.now) others }))
some_or_none nexus lun cdb None = inr refl
some_or_none nexus lun cdb (Some rest) = one_or_more nexus lun cdb rest.now (pieces 32 rest.now) refl

words_ways : (w : Words) → (words_cut w ≡ None) ⊎ (words_cut w ≡ Some (words_seen w))
words_ways w = some_or_none w.nexus.now w.lun.now w.cdb.now w.«data»

pub command_fails : (profile : Profile) (w : Words) (e e' : LineError) → MatchOption (words_cut w) (e' ≡ error.Fault WordCount) (λ _. e' ≡ e)
    → Fails e (command_in profile (Some (words_seen w))) → Fails e' (command_in profile (words_cut w))
command_fails profile w e e' found failed = fault_by (command_in profile) (words_cut w) (words_seen w) e e' refl (words_ways w) found failed

pub request_fails : (profile : Profile) (w : Words) (e e' : LineError) → MatchOption (words_cut w) (e' ≡ error.Fault WordCount) (λ _. e' ≡ e)
    → Fails e (command_request_in profile (Some (words_seen w))) → Fails e' (command_request_in profile (words_cut w))
request_fails profile w e e' found failed = fault_by (command_request_in profile) (words_cut w) (words_seen w) e e' refl (words_ways w) found failed
