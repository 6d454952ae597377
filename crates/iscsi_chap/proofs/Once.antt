-- A secrets file that is taken has one line for a host and a user.
use Rattle.std.proofs.Common.{◌≡◌, ℕ, ◌+◌, zero, suc, Bool, true, false, ◌||◌, cond, List, [], ◌∷◌, ◌++◌, length, Option, Some, None, Result, Ok, Err, refl, subst, ◌∙◌}
use Rattle.std.specs.List.{list_any}
use Rattle.std.proofs.lemmas.List.Folds.{list_any-append}
use Rattle.iscsi_chap.specs.Secrets.{EntryValue, NumberedEntry, HaveUsersOnce, numbered, first_line, is_shared, is_value_of, unmirrored, mirrored, behind_entries, line_entry, line_of, rest_of, by_line, entries_within, secrets_in}
use Rattle.iscsi_chap.specs.declared.secrets_fault.LineFault.{LineFault}
use Rattle.iscsi_chap.specs.declared.secrets_fault.LineFault.TheVariants.{UserTwice}

abbrev Said : Type 0
Said = Result (List NumberedEntry) (ℕ × LineFault)

abbrev AreOnce : Said → Type 0
AreOnce (Ok entries) = HaveUsersOnce entries
AreOnce (Err fault) = Unit {0}

either_false : (a b : Bool) → (a || b) ≡ false → (a ≡ false) × (b ≡ false)
either_false true b h = absurd cc
either_false false b h = (refl, h)

both_false : (a b : Bool) → a ≡ false → b ≡ false → (a || (b || false)) ≡ false
both_false a b h i = cc

-- an entry of another host or user than each of those before it
behind_each : (before : List NumberedEntry) (e : NumberedEntry) → list_any (λ (f : NumberedEntry). is_value_of f.said e.said.host e.said.own.user) before ≡ false
    → HaveUsersOnce before → HaveUsersOnce (before ++ e ∷ [])
behind_each [] e new h = (refl, tt)
behind_each (f ∷ before) e new h =
    let parts : (is_value_of f.said e.said.host e.said.own.user ≡ false) × (list_any (λ (g : NumberedEntry). is_value_of g.said e.said.host e.said.own.user) before ≡ false) =
    either_false (is_value_of f.said e.said.host e.said.own.user) (list_any (λ (g : NumberedEntry). is_value_of g.said e.said.host e.said.own.user) before) new in (
      list_any-append (λ (g : NumberedEntry). is_value_of f.said g.said.host g.said.own.user) before (e ∷ [])
          ∙ both_false (list_any (λ (g : NumberedEntry). is_value_of f.said g.said.host g.said.own.user) before) (is_value_of f.said e.said.host e.said.own.user) h.0 parts.0,
      behind_each before e parts.1 h.1,
    )

by_lines : (host target : Option ℕ) (others : List NumberedEntry → Said) (n : ℕ) (before : List NumberedEntry) (e : EntryValue)
    → list_any (λ (f : NumberedEntry). is_value_of f.said e.host e.own.user) before ≡ false → HaveUsersOnce before
    → ((es : List NumberedEntry) → HaveUsersOnce es → AreOnce (others es)) → AreOnce (by_line others n before (unmirrored host target e))
by_lines (Some line) target others n before e new h each = tt
by_lines None (Some line) others n before e new h each = tt
by_lines None None others n before e new h each = each (before ++ numbered n e ∷ []) (behind_each before (numbered n e) new h)

by_test : (b : Bool) (others : List NumberedEntry → Said) (n : ℕ) (before : List NumberedEntry) (e : EntryValue) → list_any (λ (f : NumberedEntry). is_value_of f.said e.host e.own.user) before ≡ b
    → HaveUsersOnce before → ((es : List NumberedEntry) → HaveUsersOnce es → AreOnce (others es)) → AreOnce (by_line others n before (cond b (Err UserTwice) (mirrored before e)))
by_test true others n before e new h each = tt
by_test false others n before e new h each =
    by_lines (first_line (λ (f : EntryValue). is_shared f.own e.target) before) (first_line (λ (f : EntryValue). is_shared e.own f.target) before) others n before e new h each

by_said : (said : Result (Option EntryValue) LineFault) (others : List NumberedEntry → Said) (n : ℕ) (before : List NumberedEntry)
    → HaveUsersOnce before → ((es : List NumberedEntry) → HaveUsersOnce es → AreOnce (others es)) → AreOnce (by_line others n before (behind_entries before said))
by_said (Err fault) others n before h each = tt
by_said (Ok None) others n before h each = each before h
by_said (Ok (Some e)) others n before h each = by_test (list_any (λ (f : NumberedEntry). is_value_of f.said e.host e.own.user) before) others n before e refl h each

within_once : (lines n : ℕ) (before : List NumberedEntry) (text : Option (List ℕ)) → HaveUsersOnce before → AreOnce (entries_within lines n before text)
within_once zero n before text h = h
within_once (suc lines) n before None h = h
within_once (suc lines) n before (Some text) h =
    by_said (line_entry (line_of text)) (λ (es : List NumberedEntry). entries_within lines (n + 1) es (rest_of text)) n before h
    (λ es i. within_once lines (n + 1) es (rest_of text) i)

pub taken_once : (text : List ℕ) (entries : List NumberedEntry) → secrets_in text ≡ Ok entries → HaveUsersOnce entries
taken_once text entries is = subst AreOnce is (within_once (length text + 1) 1 [] (Some text) tt)
