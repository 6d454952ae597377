-- The text of a secrets file: a line a host, NAME USER SECRET, or that and TARGET-USER TARGET-SECRET (profile).
use Rattle.std.specs.Prelude.{◌≡◌, ℕ, zero, suc, ◌+◌, ◌==◌, ◌&&◌, ◌||◌, not, nat_le, Bool, true, false, List, [], ◌∷◌, ◌++◌, length, take, drop, slice_index, map, Option, Some, None, Result, Ok, Err, if◌then◌else◌}
use Rattle.std.specs.List.{position, list_any}
use Rattle.std.specs.Option.{option_map}
use Rattle.std.specs.Str.{bytes_eq}
use Rattle.iscsi_keys.specs.IscsiNames.{is_iscsi_name, is_same_name}
use denote.Ref.{Bor}
use Rattle.iscsi_chap.specs.declared.entry.Credentials.{Credentials}
use Rattle.iscsi_chap.specs.declared.entry.ChapEntry.{ChapEntry}
use Rattle.iscsi_chap.specs.declared.entry.ChapSecrets.{ChapSecrets}
use Rattle.iscsi_chap.specs.declared.fields.CredentialsFields.{CredentialsFields}
use Rattle.iscsi_chap.specs.declared.fields.Fields.{Fields}
use Rattle.iscsi_chap.specs.declared.words.Word as cut
use Rattle.iscsi_chap.specs.declared.secrets_fault.LineFault.{LineFault}
use Rattle.iscsi_chap.specs.declared.secrets_fault.LineFault.TheVariants.{FieldCount, Name, SecretLength, SameSecret, UserTwice, SecretOfHost, SecretOfTarget}
use Rattle.iscsi_chap.specs.declared.secrets_fault.SecretsFault.{SecretsFault}
use Rattle.iscsi_chap.specs.declared.secrets_fault.SecretsFault.TheVariants.{Line, NoMemory}

pub record CredentialsValue : Type 0 where
  pub user : List ℕ
  pub secret : List ℕ

pub record EntryValue : Type 0 where
  pub host : List ℕ
  pub own : CredentialsValue
  pub target : Option CredentialsValue

abbrev pub credentials_value : Credentials → CredentialsValue
credentials_value c = record { user = c.user.items; secret = c.secret.items }

abbrev pub entry_value : ChapEntry → EntryValue
entry_value e = record { host = e.host.items; own = credentials_value e.own; target = option_map credentials_value e.target }

-- an entry, and the line that says it
pub record NumberedEntry : Type 0 where
  pub line : ℕ
  pub said : EntryValue

abbrev pub numbered : (line : ℕ) → EntryValue → NumberedEntry
numbered line said = record { line = line; said = said }

abbrev pub numbered_entry : ChapEntry → NumberedEntry
numbered_entry e = numbered e.line (entry_value e)

abbrev pub numbered_entries : List ChapEntry → List NumberedEntry
numbered_entries entries = map numbered_entry entries

abbrev pub credentials_fields_value : CredentialsFields → CredentialsValue
credentials_fields_value c = record { user = c.user.now; secret = c.secret.now }

abbrev pub fields_value : Fields → EntryValue
fields_value f = record { host = f.host.now; own = credentials_fields_value f.own; target = option_map credentials_fields_value f.target }

-- spaces, 32, tabs, 9, and carriage returns, 13, part words
abbrev pub is_blank : ℕ → Bool
is_blank b = (b == 32) || (b == 9) || (b == 13)

-- what stands before a place, or all; and what stands from there on
abbrev pub front : Option ℕ → (text : List ℕ) → List ℕ
front None text = text
front (Some n) text = take n text

abbrev pub back : Option ℕ → (text : List ℕ) → List ℕ
back None text = []
back (Some n) text = drop n text

abbrev pub trimmed : (line : List ℕ) → List ℕ
trimmed line = back (position (λ b. not (is_blank b)) line) line

-- a word, and what is behind it
pub record WordValue : Type 0 where
  pub text : List ℕ
  pub rest : List ℕ

abbrev pub word_of : (words : List ℕ) → WordValue
word_of words = record { text = front (position is_blank words) words; rest = back (position is_blank words) words }

-- a word that begins with #, 35, begins a comment
abbrev pub word_at : (words : List ℕ) → Option WordValue
word_at words =
    if length words == 0 then None
    else if slice_index words 0 == 35 then None
    else Some (word_of words)

unfoldable pub first_word : (line : List ℕ) → Option WordValue
first_word line = word_at (trimmed line)

abbrev pub some_word_value : cut.Word → WordValue
some_word_value w = record { text = w.text.now; rest = w.rest.now }

abbrev pub word_value : Option cut.Word → Option WordValue
word_value None = None
word_value (Some w) = Some (some_word_value w)

abbrev pub words_from : (others : List ℕ → List (List ℕ)) → Option WordValue → List (List ℕ)
words_from others None = []
words_from others (Some w) = w.text ∷ others w.rest

-- so many words at most
abbrev pub words_within : ℕ → (line : List ℕ) → List (List ℕ)
words_within zero line = []
words_within (suc more) line = words_from (words_within more) (first_word line)

-- six words are too many already
abbrev pub words_of : (line : List ℕ) → List (List ℕ)
words_of line = words_within 6 line

abbrev pub is_secret : List ℕ → Bool
is_secret secret = nat_le 12 (length secret) && nat_le (length secret) 128

abbrev pub has_secret : Option CredentialsValue → Bool
has_secret None = true
has_secret (Some target) = is_secret target.secret

-- which the target may not share with the host (RFC 7143, "CHAP Considerations")
abbrev pub is_shared : (own : CredentialsValue) → Option CredentialsValue → Bool
is_shared own None = false
is_shared own (Some target) = bytes_eq target.secret own.secret

abbrev pub checked : (host : List ℕ) → (own : CredentialsValue) → (target : Option CredentialsValue) → Result (Option EntryValue) LineFault
checked host own target =
    if not (is_secret own.secret) then Err SecretLength
    else if not (has_secret target) then Err SecretLength
    else if not (is_iscsi_name host) then Err Name
    else if is_shared own target then Err SameSecret
    else Ok (Some (record { host = host; own = own; target = target }))

abbrev pub credentials : (user secret : List ℕ) → CredentialsValue
credentials user secret = record { user = user; secret = secret }

-- what words say: nothing, or an entry
abbrev pub entry_by : List (List ℕ) → Result (Option EntryValue) LineFault
entry_by [] = Ok None
entry_by (host ∷ user ∷ secret ∷ []) = checked host (credentials user secret) None
entry_by (host ∷ user ∷ secret ∷ target_user ∷ target_secret ∷ []) =
    checked host (credentials user secret) (Some (credentials target_user target_secret))
entry_by _ = Err FieldCount

unfoldable pub line_entry : (line : List ℕ) → Result (Option EntryValue) LineFault
line_entry line = entry_by (words_of line)

abbrev pub said_value : Result (Option Fields) LineFault → Result (Option EntryValue) LineFault
said_value (Ok said) = Ok (option_map fields_value said)
said_value (Err fault) = Err fault

-- the first line, which a line feed, 10, ends, and what is behind that
abbrev pub line_of : (text : List ℕ) → List ℕ
line_of text = front (position (λ b. b == 10) text) text

abbrev pub behind : Option ℕ → (text : List ℕ) → Option (List ℕ)
behind None text = None
behind (Some n) text = Some (drop (n + 1) text)

abbrev pub rest_of : (text : List ℕ) → Option (List ℕ)
rest_of text = behind (position (λ b. b == 10) text) text

abbrev pub rest_value : Option (Bor (List ℕ)) → Option (List ℕ)
rest_value None = None
rest_value (Some rest) = Some rest.now

-- names are the same in letters of either case (RFC 7143, "iSCSI Names"), users are so byte for byte
abbrev pub is_value_of : EntryValue → (host user : List ℕ) → Bool
is_value_of e host user = is_same_name e.host host && bytes_eq e.own.user user

-- the first line whose entry passes a test
abbrev pub first_line : (test : EntryValue → Bool) → List NumberedEntry → Option ℕ
first_line test [] = None
first_line test (e ∷ others) = if test e.said then Some e.line else first_line test others

-- an entry, unless the target has the secret of a host by a line before, or the host that of the target
abbrev pub unmirrored : (host target : Option ℕ) → EntryValue → Result (Option EntryValue) LineFault
unmirrored (Some line) _ entry = Err (SecretOfHost line)
unmirrored None (Some line) entry = Err (SecretOfTarget line)
unmirrored None None entry = Ok (Some entry)

-- a host that has the target's secret could answer its challenge by what the target answers to another (RFC 7143, "CHAP Considerations")
abbrev pub mirrored : (before : List NumberedEntry) → EntryValue → Result (Option EntryValue) LineFault
mirrored before entry =
    unmirrored (first_line (λ e. is_shared e.own entry.target) before) (first_line (λ e. is_shared entry.own e.target) before) entry

-- what a line says behind entries: of a host and a user there is one, and no secret is shown both ways
abbrev pub behind_entries : (before : List NumberedEntry) → Result (Option EntryValue) LineFault → Result (Option EntryValue) LineFault
behind_entries before (Ok (Some entry)) =
    if list_any (λ e. is_value_of e.said entry.host entry.own.user) before then Err UserTwice else mirrored before entry
behind_entries before (Ok None) = Ok None
behind_entries before (Err fault) = Err fault

abbrev pub line_behind : (before : List NumberedEntry) → (line : List ℕ) → Result (Option EntryValue) LineFault
line_behind before line = behind_entries before (line_entry line)

-- with what the lines behind this one say
abbrev pub by_line : (others : List NumberedEntry → Result (List NumberedEntry) (ℕ × LineFault)) → (number : ℕ) → (before : List NumberedEntry) → Result (Option EntryValue) LineFault → Result (List NumberedEntry) (ℕ × LineFault)
by_line others number before (Err fault) = Err (number, fault)
by_line others number before (Ok None) = others before
by_line others number before (Ok (Some entry)) = others (before ++ numbered number entry ∷ [])

-- the entries before this text and those of so many lines of it, the first of them of this number, or the first line with a fault
abbrev pub entries_within : ℕ → (number : ℕ) → (before : List NumberedEntry) → Option (List ℕ) → Result (List NumberedEntry) (ℕ × LineFault)
entries_within zero number before text = Ok before
entries_within (suc lines) number before None = Ok before
entries_within (suc lines) number before (Some text) =
    by_line (λ entries. entries_within lines (number + 1) entries (rest_of text)) number before (line_behind before (line_of text))

-- but for the last line each has a line feed, so there is one line more than bytes at most
abbrev pub secrets_in : (text : List ℕ) → Result (List NumberedEntry) (ℕ × LineFault)
secrets_in text = entries_within (length text + 1) 1 [] (Some text)

-- behind none of them stands another of its host and user
abbrev pub HaveUsersOnce : List NumberedEntry → Type 0
HaveUsersOnce [] = Unit {0}
HaveUsersOnce (e ∷ others) = (list_any (λ f. is_value_of e.said f.said.host f.said.own.user) others ≡ false) × HaveUsersOnce others

-- one shows a secret that the other is asked for
abbrev pub are_mirrored : (e f : NumberedEntry) → Bool
are_mirrored e f = is_shared e.said.own f.said.target || is_shared f.said.own e.said.target

-- no secret of the target is a host's, of one line or of two
abbrev pub HaveSecretsApart : List NumberedEntry → Type 0
HaveSecretsApart [] = Unit {0}
HaveSecretsApart (e ∷ others) =
    (is_shared e.said.own e.said.target ≡ false) × (list_any (λ f. are_mirrored e f) others ≡ false) × HaveSecretsApart others

-- what a line says was added
abbrev pub TakesLine : (number : ℕ) → (old new : List NumberedEntry) → Result (Option EntryValue) LineFault → Type 0
TakesLine number old new (Ok None) = new ≡ old
TakesLine number old new (Ok (Some entry)) = new ≡ old ++ numbered number entry ∷ []
TakesLine number old new (Err fault) = ⊥

-- this line has the fault, unless memory ran out
abbrev pub FailsAt : (number : ℕ) → SecretsFault → Result (Option EntryValue) LineFault → Type 0
FailsAt number (Line n what) said = (n ≡ number) × (said ≡ Err what)
FailsAt number NoMemory said = Unit {0}

abbrev pub IsFault : SecretsFault → Result (List NumberedEntry) (ℕ × LineFault) → Type 0
IsFault (Line n what) said = said ≡ Err (n, what)
IsFault NoMemory said = Unit {0}

-- what was given is what the text says, unless memory ran out
abbrev pub GivesSecrets : Result ChapSecrets SecretsFault → Result (List NumberedEntry) (ℕ × LineFault) → Type 0
GivesSecrets (Ok secrets) said = said ≡ Ok (numbered_entries secrets.entries.items)
GivesSecrets (Err fault) said = IsFault fault said
