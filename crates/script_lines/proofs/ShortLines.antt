-- A line without data, whose words stand at fixed places.
use Rattle.std.proofs.Common.{◌≡◌, ℕ, ◌-◌, ◌<◌, ◌≤◌, Bool, true, false, ◌&&◌, cond, eqb, leb, eqb-true, List, [], ◌∷◌, ◌++◌, length, take, drop, get_or, None, Result, Ok, Err, refl, sym, ap, subst, ◌∙◌, arith}
use Rattle.std.specs.Prelude.{All, codes}
use Rattle.std.specs.List.{list_all}
use Rattle.std.specs.Str.{bytes_eq}
use Rattle.std.proofs.lemmas.Bool.{and_parts, leb-true}
use Rattle.std.proofs.lemmas.List.{drop_more, length-take-le, length-drop}
use Rattle.std.proofs.lemmas.List.Elements.{All-nil, All-cons, All-append}
use Rattle.std.proofs.lemmas.List.Splits.{slice_split_at, slice_split_none}
use lib.ListN.{take-append-drop}
use Rattle.hex.specs.Hex.{decode_of, is_hex_digit}
use Rattle.scsi_cdb.specs.declared.profile.Profile.{Profile}
use Rattle.scsi_nexus.specs.declared.nexus.Nexus.{Nexus}
use Rattle.script_input.specs.declared.line_fault.LineFault.{LineFault}
use Rattle.script_input.specs.declared.line_fault.LineFault.TheVariants.{BadNexus}
use Rattle.script_lines.specs.Lines.{Command, event_in}
use Rattle.script_lines.specs.Text.{pieces}
use Rattle.script_lines.specs.Words.{hex_bytes, hex_in, is_digit, is_port, nexus_at, nexus_in, unit_in}
use Rattle.script_lines.proofs.Pairs.{no_digits, other_character}

abbrev pub IsOther : ℕ → Type 0
IsOther x = eqb x 32 ≡ false

-- without a space
abbrev pub Free : List ℕ → Type 0
Free word = All IsOther word

no_space : (x : ℕ) (b : Bool) → eqb x 32 ≡ b → is_hex_digit x ≡ true → eqb x 32 ≡ false
no_space x false e hex = e
no_space x true e hex = absurd (let h : is_hex_digit 32 ≡ true = subst (λ n. is_hex_digit n ≡ true) (eqb-true x 32 e) hex in cc)

pub digits_free : (s : List ℕ) → list_all is_hex_digit s ≡ true → Free s
digits_free [] h = All-nil IsOther
digits_free (x ∷ xs) h =
    let parts = and_parts (is_hex_digit x) (list_all is_hex_digit xs) h in
    All-cons IsOther x xs (no_space x (eqb x 32) refl parts.0) (digits_free xs parts.1)

free_above : (x : ℕ) → 32 < x → eqb x 32 ≡ false
free_above x lt = go (eqb x 32) refl
  where
    go : (b : Bool) → eqb x 32 ≡ b → eqb x 32 ≡ false
    go false e = e
    go true e = absurd (omega (arith, eqb-true x 32 e))

-- THE WORDS

chosen : {A : Type 0} (b : Bool) (r : Result A LineFault) (f : LineFault) (x : A) → cond b r (Err f) ≡ Ok x → (b ≡ true) × (r ≡ Ok x)
chosen true r f x e = (refl, e)
chosen false r f x e = absurd cc

sas_digits : (b : Bool) (s : List ℕ) (port : ℕ) (nexus : Nexus) → list_all is_hex_digit s ≡ b → nexus_at (hex_bytes (decode_of s)) port ≡ Ok nexus → list_all is_hex_digit s ≡ true
sas_digits true s port nexus e h = e
sas_digits false s port nexus e h = absurd (let none : nexus_at None port ≡ Ok nexus = subst (λ r. nexus_at r port ≡ Ok nexus) (no_digits s e) h in cc)

pub hex_digits : (b : Bool) (limit : ℕ) (s bytes : List ℕ) → list_all is_hex_digit s ≡ b → hex_in limit s ≡ Ok bytes → list_all is_hex_digit s ≡ true
hex_digits true limit s bytes e h = e
hex_digits false limit s bytes e h = absurd (let bad = other_character limit s e in cc)

last_two : (w : List ℕ) → length w ≡ 18 → w ≡ take 16 w ++ (get_or w 16 0 ∷ get_or w 17 0 ∷ [])
last_two w long =
    let rest : drop 16 w ≡ get_or w 16 0 ∷ get_or w 17 0 ∷ drop 18 w = drop_more w 16 0 (omega arith) ∙ ap (λ (l : List ℕ). get_or w 16 0 ∷ l) (drop_more w 17 0 (omega arith)) in
    sym (take-append-drop 16 w) ∙ ap (λ (l : List ℕ). take 16 w ++ l) (rest ∙ ap (λ (l : List ℕ). get_or w 16 0 ∷ get_or w 17 0 ∷ l) (nothing (drop 18 w) (omega (arith, length-drop 18 w))))
  where
    nothing : (l : List ℕ) → length l ≡ 0 → l ≡ []
    nothing [] e = refl
    nothing (x ∷ xs) e = absurd (omega arith)

nexus_free : (w : List ℕ) (nexus : Nexus) → length w ≡ 18 → nexus_in w ≡ Ok nexus → Free w
unfolding nexus_in
nexus_free w nexus long h =
    let tests = chosen ((eqb (length w) 18 && eqb (get_or w 16 0) 46) && is_port (get_or w 17 0)) (nexus_at (hex_bytes (decode_of (take 16 w))) (get_or w 17 0 - 48)) BadNexus nexus h in
    let port = and_parts (eqb (length w) 18 && eqb (get_or w 16 0) 46) (is_port (get_or w 17 0)) tests.0 in
    let dot = and_parts (eqb (length w) 18) (eqb (get_or w 16 0) 46) port.0 in
    let digits = sas_digits _ (take 16 w) (get_or w 17 0 - 48) nexus refl tests.1 in
    let last : 32 < get_or w 17 0 = omega (arith, leb-true 49 (get_or w 17 0) (and_parts (leb 49 (get_or w 17 0)) (leb (get_or w 17 0) 52) port.1).0) in
    subst Free (sym (last_two w long))
    (All-append IsOther (take 16 w) _ (digits_free (take 16 w) digits)
    (All-cons IsOther (get_or w 16 0) (get_or w 17 0 ∷ []) (free_above _ (omega (arith, eqb-true _ _ dot.1))) (All-cons IsOther (get_or w 17 0) [] (free_above _ last) (All-nil IsOther))))

unit_free : (w : List ℕ) (lun : ℕ) → length w ≡ 1 → unit_in w ≡ Ok lun → Free w
unfolding unit_in
unit_free [] lun one h = absurd (omega arith)
unit_free (u ∷ []) lun one h = All-cons IsOther u [] (free_above u (grind (arith, (chosen (is_digit u) _ _ lun h).0))) (All-nil IsOther)
unit_free (u ∷ x ∷ xs) lun one h = absurd (omega arith)

-- THE LINE

three_words : (line a b d : List ℕ) → line ≡ a ++ 32 ∷ (b ++ 32 ∷ d) → Free a → Free b → Free d → pieces 32 line ≡ a ∷ b ∷ d ∷ []
unfolding pieces
three_words line a b d cut fa fb fd =
    let p : ℕ → Bool = λ x. eqb x 32 in
    ap (pieces 32) cut ∙ slice_split_at p a 32 (b ++ 32 ∷ d) fa refl
    ∙ ap (λ (l : List (List ℕ)). a ∷ l) (slice_split_at p b 32 d fb refl ∙ ap (λ (l : List (List ℕ)). b ∷ l) (slice_split_none p d fd))

cut_line : (line : List ℕ) → 21 ≤ length line → get_or line 18 0 ≡ 32 → get_or line 20 0 ≡ 32
    → line ≡ take 18 line ++ 32 ∷ (get_or line 19 0 ∷ 32 ∷ drop 21 line)
cut_line line long e18 e20 =
    let third : drop 20 line ≡ 32 ∷ drop 21 line = drop_more line 20 0 (omega arith) ∙ ap (λ n. n ∷ drop 21 line) e20 in
    let second : drop 19 line ≡ get_or line 19 0 ∷ 32 ∷ drop 21 line = drop_more line 19 0 (omega arith) ∙ ap (λ (l : List ℕ). get_or line 19 0 ∷ l) third in
    let first : drop 18 line ≡ 32 ∷ (get_or line 19 0 ∷ 32 ∷ drop 21 line) = drop_more line 18 0 (omega arith) ∙ (λ i. e18 i ∷ second i) in
    sym (take-append-drop 18 line) ∙ ap (λ (l : List ℕ). take 18 line ++ l) first

other_length : (a w : List ℕ) → length w < length a → bytes_eq a w ≡ false
other_length [] w lt = absurd (omega arith)
other_length (x ∷ xs) [] lt = refl
other_length (x ∷ xs) (y ∷ ys) lt = both_false _ _ (other_length xs ys (omega arith))
  where
    both_false : (p q : Bool) → q ≡ false → (p && q) ≡ false
    both_false true q e = e
    both_false false q e = refl

says : (profile : Profile) (a b d : List ℕ) (nexus : Nexus) (lun : ℕ) (cdb : List ℕ) → length a ≡ 18 → nexus_in a ≡ Ok nexus → unit_in b ≡ Ok lun → hex_in 16 d ≡ Ok cdb
    → event_in profile (a ∷ b ∷ d ∷ []) ≡ Ok (Command nexus lun cdb [])
says profile a b d nexus lun cdb long en eu ed =
    rw (other_length a (codes "loss") (omega arith), other_length a (codes "reset") (omega arith), en, eu, ed) refl

-- what such a line says
pub short_line : (line unit cdb_word : List ℕ) (profile : Profile) (nexus : Nexus) (lun : ℕ) (cdb : List ℕ) → 21 ≤ length line → get_or line 18 0 ≡ 32 → get_or line 20 0 ≡ 32
    → unit ≡ get_or line 19 0 ∷ [] → cdb_word ≡ drop 21 line → nexus_in (take 18 line) ≡ Ok nexus → unit_in unit ≡ Ok lun → hex_in 16 cdb_word ≡ Ok cdb
    → event_in profile (pieces 32 line) ≡ Ok (Command nexus lun cdb [])
short_line line unit cdb_word profile nexus lun cdb long e18 e20 one last en eu ed =
    let word : length (take 18 line) ≡ 18 = length-take-le 18 line (omega arith) in
    let eu' = subst (λ w. unit_in w ≡ Ok lun) one eu in
    let ed' = subst (λ w. hex_in 16 w ≡ Ok cdb) last ed in
    ap (event_in profile) (three_words line (take 18 line) (get_or line 19 0 ∷ []) (drop 21 line) (cut_line line long e18 e20)
    (nexus_free (take 18 line) nexus word en) (unit_free (get_or line 19 0 ∷ []) lun refl eu') (digits_free (drop 21 line) (hex_digits _ 16 (drop 21 line) cdb refl ed')))
    ∙ says profile (take 18 line) (get_or line 19 0 ∷ []) (drop 21 line) nexus lun cdb word en eu' ed'
