-- Text of login and text requests: items KEY=VALUE, each with a NUL behind it (RFC 7143, "Text Format").
use Rattle.std.specs.Prelude.{◌≡◌, ℕ, ◌+◌, ◌==◌, ◌<◌, not, true, List, [], ◌∷◌, ◌++◌, length, take, drop, Option, Some, None, if◌then◌else◌}
use Rattle.std.specs.List.{position, list_all}
use Rattle.iscsi_keys.specs.declared.fault.TextFault.{TextFault}
use Rattle.iscsi_keys.specs.declared.fault.TextFault.TheVariants.{NoNul, NoEquals}
use Rattle.iscsi_keys.specs.declared.text.TextItem as declared
use Rattle.iscsi_keys.specs.declared.text.TextItem.TheVariants as item

pub data ItemValue : Type 0 where
  End : ItemValue
  Pair : (key value rest : List ℕ) → ItemValue
  Invalid : TextFault → ItemValue

-- an item up to its NUL, cut at its first =, 61
abbrev pub pair_at : Option ℕ → (item rest : List ℕ) → ItemValue
pair_at None item rest = Invalid NoEquals
pair_at (Some n) item rest = Pair (take n item) (drop (n + 1) item) rest

abbrev pub item_at : Option ℕ → (text : List ℕ) → ItemValue
item_at None text = Invalid NoNul
item_at (Some n) text = pair_at (position (λ b. b == 61) (take n text)) (take n text) (drop (n + 1) text)

-- NULs alone end a text too: some initiators fill it up with them (profile)
abbrev pub first_item : (text : List ℕ) → ItemValue
first_item text = if list_all (λ b. b == 0) text then End else item_at (position (λ b. b == 0) text) text

abbrev pub item_value : declared.TextItem → ItemValue
item_value item.End = End
item_value (item.Pair key value rest) = Pair key.now value.now rest.now
item_value (item.Invalid fault) = Invalid fault

-- what is left is less
abbrev pub IsShorter : ℕ → declared.TextItem → Type 0
IsShorter len (item.Pair key value rest) = length rest.now < len
IsShorter len _ = Unit {0}

-- an item, as it is written
abbrev pub item_bytes : (key value : List ℕ) → List ℕ
item_bytes key value = key ++ 61 ∷ (value ++ 0 ∷ [])

-- no byte of the text is the one
abbrev pub HasNo : ℕ → List ℕ → Type 0
HasNo b text = list_all (λ c. not (c == b)) text ≡ true
