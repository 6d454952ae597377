-- Who is let in by what secret.
use Rattle.std.specs.Prelude.{ℕ, suc, ◌&&◌, Bool, List, [], ◌∷◌, Option, Some, None, if◌then◌else◌}
use Rattle.std.specs.Str.{bytes_eq}
use Rattle.iscsi_keys.specs.IscsiNames.{is_same_name}
use Rattle.iscsi_chap.specs.declared.entry.ChapEntry.{ChapEntry}

abbrev pub is_entry_of : ChapEntry → (host user : List ℕ) → Bool
is_entry_of e host user = is_same_name e.host.items host && bytes_eq e.own.user.items user

abbrev pub entry_from : (place : ℕ) → List ChapEntry → (host user : List ℕ) → Option (ℕ × ChapEntry)
entry_from place [] host user = None
entry_from place (e ∷ others) host user = if is_entry_of e host user then Some (place, e) else entry_from (suc place) others host user

-- what a response is judged by: the secret of the entry, or where there is none, that of the first, so that it takes the same work to refuse it
abbrev pub secret_for : List ChapEntry → (found : Option (ℕ × ChapEntry)) → List ℕ
secret_for entries (Some (place, entry)) = entry.own.secret.items
secret_for [] None = []
secret_for (e ∷ others) None = e.own.secret.items

-- the first of the host and the user, and its place, counted from 0
abbrev pub entry_among : List ChapEntry → (host user : List ℕ) → Option (ℕ × ChapEntry)
entry_among entries host user = entry_from 0 entries host user
