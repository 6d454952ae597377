-- In a secrets file that is taken no secret of the target is a host's.
use Rattle.std.proofs.Common.{◌≡◌, ℕ, ◌+◌, zero, suc, Bool, true, false, ◌||◌, cond, List, [], ◌∷◌, ◌++◌, length, Option, Some, None, Result, Ok, Err, refl, subst, ◌∙◌}
use Rattle.std.specs.List.{list_any}
use Rattle.std.specs.Prelude.{not}
use Rattle.std.proofs.lemmas.List.Folds.{list_any-append}
use Rattle.iscsi_keys.specs.IscsiNames.{is_iscsi_name}
use Rattle.iscsi_chap.specs.Secrets.{CredentialsValue, EntryValue, NumberedEntry, HaveSecretsApart, are_mirrored, numbered, first_line, is_secret, has_secret, is_shared, is_value_of, checked, credentials, entry_by, words_of, unmirrored, mirrored, behind_entries, line_entry, line_of, rest_of, by_line, entries_within, secrets_in}
use Rattle.iscsi_chap.specs.declared.secrets_fault.LineFault.{LineFault}
use Rattle.iscsi_chap.specs.declared.secrets_fault.LineFault.TheVariants.{SecretLength, Name, SameSecret, UserTwice}

abbrev Said : Type 0
Said = Result (List NumberedEntry) (ℕ × LineFault)

abbrev AreApart : Said → Type 0
AreApart (Ok entries) = HaveSecretsApart entries
AreApart (Err fault) = Unit {0}

either_false : (a b : Bool) → (a || b) ≡ false → (a ≡ false) × (b ≡ false)
either_false true b h = absurd cc
either_false false b h = (refl, h)

none_of : (a b : Bool) → a ≡ false → b ≡ false → (a || b) ≡ false
none_of a b h i = cc

or_none : (a : Bool) → (a || false) ≡ a
or_none true = refl
or_none false = refl

-- the test of no line before
untested : (b : Bool) (line : ℕ) (others : Option ℕ) → cond b (Some line) others ≡ None → (b ≡ false) × (others ≡ None)
untested true line others h = absurd cc
untested false line others h = (refl, h)

no_line : (test : EntryValue → Bool) (before : List NumberedEntry) → first_line test before ≡ None → list_any (λ (f : NumberedEntry). test f.said) before ≡ false
no_line test [] h = refl
no_line test (f ∷ before) h =
    let parts = untested (test f.said) f.line (first_line test before) h in
    none_of (test f.said) (list_any (λ (g : NumberedEntry). test g.said) before) parts.0 (no_line test before parts.1)

-- an entry whose secrets are apart from those of each before it
behind_each : (before : List NumberedEntry) (e : NumberedEntry) → is_shared e.said.own e.said.target ≡ false
    → list_any (λ (f : NumberedEntry). is_shared f.said.own e.said.target) before ≡ false → list_any (λ (f : NumberedEntry). is_shared e.said.own f.said.target) before ≡ false
    → HaveSecretsApart before → HaveSecretsApart (before ++ e ∷ [])
behind_each [] e own hosts targets h = (own, refl, tt)
behind_each (f ∷ before) e own hosts targets h =
    let host = either_false (is_shared f.said.own e.said.target) (list_any (λ (g : NumberedEntry). is_shared g.said.own e.said.target) before) hosts in
    let target = either_false (is_shared e.said.own f.said.target) (list_any (λ (g : NumberedEntry). is_shared e.said.own g.said.target) before) targets in (
      h.0,
      list_any-append (λ (g : NumberedEntry). are_mirrored f g) before (e ∷ [])
          ∙ none_of (list_any (λ (g : NumberedEntry). are_mirrored f g) before) (are_mirrored f e || false) h.1
          (or_none (are_mirrored f e) ∙ none_of (is_shared f.said.own e.said.target) (is_shared e.said.own f.said.target) host.0 target.0),
      behind_each before e own host.1 target.1 h.2,
    )

-- the entry of a line has two secrets
passed : (a b c d : Bool) (made e : EntryValue)
    → cond a (Err SecretLength) (cond b (Err SecretLength) (cond c (Err Name) (cond d (Err SameSecret) (Ok (Some made))))) ≡ Ok (Some e)
    → (d ≡ false) × (made ≡ e)
passed true b c d made e h = absurd cc
passed false true c d made e h = absurd cc
passed false false true d made e h = absurd cc
passed false false false true made e h = absurd cc
passed false false false false made e h = (refl, cc)

checked_apart : (host : List ℕ) (own : CredentialsValue) (target : Option CredentialsValue) (e : EntryValue) → checked host own target ≡ Ok (Some e) → is_shared e.own e.target ≡ false
checked_apart host own target e h =
    let made : EntryValue = record { host = host; own = own; target = target } in
    let p = passed (not (is_secret own.secret)) (not (has_secret target)) (not (is_iscsi_name host)) (is_shared own target) made e h in
    subst (λ (x : EntryValue). is_shared x.own x.target ≡ false) p.1 p.0

by_words : (words : List (List ℕ)) (e : EntryValue) → entry_by words ≡ Ok (Some e) → is_shared e.own e.target ≡ false
by_words [] e h = absurd cc
by_words (host ∷ []) e h = absurd cc
by_words (host ∷ user ∷ []) e h = absurd cc
by_words (host ∷ user ∷ secret ∷ []) e h = checked_apart host (credentials user secret) None e h
by_words (host ∷ user ∷ secret ∷ a ∷ []) e h = absurd cc
by_words (host ∷ user ∷ secret ∷ a ∷ b ∷ []) e h = checked_apart host (credentials user secret) (Some (credentials a b)) e h
by_words (host ∷ user ∷ secret ∷ a ∷ b ∷ c ∷ more) e h = absurd cc

line_apart : (line : List ℕ) (e : EntryValue) → line_entry line ≡ Ok (Some e) → is_shared e.own e.target ≡ false
unfolding line_entry
line_apart line e h = by_words (words_of line) e h

by_lines : (host target : Option ℕ) (others : List NumberedEntry → Said) (n : ℕ) (before : List NumberedEntry) (e : EntryValue)
    → first_line (λ (f : EntryValue). is_shared f.own e.target) before ≡ host → first_line (λ (f : EntryValue). is_shared e.own f.target) before ≡ target
    → is_shared e.own e.target ≡ false → HaveSecretsApart before
    → ((es : List NumberedEntry) → HaveSecretsApart es → AreApart (others es)) → AreApart (by_line others n before (unmirrored host target e))
by_lines (Some line) target others n before e hosts targets own h each = tt
by_lines None (Some line) others n before e hosts targets own h each = tt
by_lines None None others n before e hosts targets own h each =
    each (before ++ numbered n e ∷ []) (behind_each before (numbered n e) own
    (no_line (λ (f : EntryValue). is_shared f.own e.target) before hosts) (no_line (λ (f : EntryValue). is_shared e.own f.target) before targets) h)

by_test : (b : Bool) (others : List NumberedEntry → Said) (n : ℕ) (before : List NumberedEntry) (e : EntryValue) → is_shared e.own e.target ≡ false → HaveSecretsApart before
    → ((es : List NumberedEntry) → HaveSecretsApart es → AreApart (others es)) → AreApart (by_line others n before (cond b (Err UserTwice) (mirrored before e)))
by_test true others n before e own h each = tt
by_test false others n before e own h each =
    by_lines (first_line (λ (f : EntryValue). is_shared f.own e.target) before) (first_line (λ (f : EntryValue). is_shared e.own f.target) before) others n before e refl refl own h each

by_said : (said : Result (Option EntryValue) LineFault) (others : List NumberedEntry → Said) (n : ℕ) (before : List NumberedEntry)
    → ((e : EntryValue) → said ≡ Ok (Some e) → is_shared e.own e.target ≡ false) → HaveSecretsApart before
    → ((es : List NumberedEntry) → HaveSecretsApart es → AreApart (others es)) → AreApart (by_line others n before (behind_entries before said))
by_said (Err fault) others n before own h each = tt
by_said (Ok None) others n before own h each = each before h
by_said (Ok (Some e)) others n before own h each =
    by_test (list_any (λ (f : NumberedEntry). is_value_of f.said e.host e.own.user) before) others n before e (own e refl) h each

within_apart : (lines n : ℕ) (before : List NumberedEntry) (text : Option (List ℕ)) → HaveSecretsApart before → AreApart (entries_within lines n before text)
within_apart zero n before text h = h
within_apart (suc lines) n before None h = h
within_apart (suc lines) n before (Some text) h =
    by_said (line_entry (line_of text)) (λ (es : List NumberedEntry). entries_within lines (n + 1) es (rest_of text)) n before (line_apart (line_of text)) h
    (λ es i. within_apart lines (n + 1) es (rest_of text) i)

pub taken_apart : (text : List ℕ) (entries : List NumberedEntry) → secrets_in text ≡ Ok entries → HaveSecretsApart entries
taken_apart text entries is = subst AreApart is (within_apart (length text + 1) 1 [] (Some text) tt)
