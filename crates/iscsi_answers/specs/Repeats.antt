-- Texts that have a key twice (RFC 7143, "Text Mode Negotiation": a key isn't negotiated twice in one sequence), or too many keys (profile).
use Rattle.std.specs.Prelude.{ℕ, zero, suc, nat_lt, Bool, true, false, ◌||◌, List, [], ◌∷◌, length}
use Rattle.std.specs.List.{list_any}
use Rattle.std.specs.Str.{bytes_eq}
use Rattle.iscsi_keys.specs.Texts.{ItemValue, End, Pair, Invalid, first_item}

abbrev pub is_pair : ItemValue → Bool
is_pair End = false
is_pair (Invalid fault) = false
is_pair (Pair key value rest) = true

abbrev pub keys_at : (behind : List ℕ → List (List ℕ)) → ItemValue → List (List ℕ)
keys_at behind End = []
keys_at behind (Invalid fault) = []
keys_at behind (Pair key value rest) = key ∷ behind rest

-- the keys of a text, up to its end or to what is no item: the first so many of them
abbrev pub first_keys : (most : ℕ) → (text : List ℕ) → List (List ℕ)
first_keys zero text = []
first_keys (suc most) text = keys_at (first_keys most) (first_item text)

-- one stands again behind it
abbrev pub has_twice : List (List ℕ) → Bool
has_twice [] = false
has_twice (key ∷ keys) = list_any (bytes_eq key) keys || has_twice keys

abbrev pub most_keys : ℕ
most_keys = 64

-- so many keys are compared, and one more is one too many
abbrev pub are_overdone : List (List ℕ) → Bool
are_overdone keys = nat_lt most_keys (length keys) || has_twice keys

abbrev pub is_overdone : (text : List ℕ) → Bool
is_overdone text = are_overdone (first_keys 65 text)
