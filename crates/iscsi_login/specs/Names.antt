-- What the first text of a login says of its session: who wants it, of whom, and what for.
use Rattle.std.specs.Prelude.{ℕ, ◌+◌, zero, suc, List, length, codes, Option, Some, None, if◌then◌else◌}
use Rattle.std.specs.Str.{bytes_eq}
use Rattle.iscsi_keys.specs.Keys.{key_name}
use Rattle.iscsi_keys.specs.Texts.{ItemValue, End, Pair, Invalid, first_item}
use Rattle.iscsi_keys.specs.declared.key.Key.{Key}
use Rattle.iscsi_chap.specs.declared.session_type.SessionType.{SessionType}
use Rattle.iscsi_chap.specs.declared.session_type.SessionType.TheVariants.{Normal, Discovery}

abbrev pub declared_at : (behind : List ℕ → Option (List ℕ)) → (wanted : List ℕ) → ItemValue → Option (List ℕ)
declared_at behind wanted End = None
declared_at behind wanted (Invalid fault) = None
declared_at behind wanted (Pair name value rest) = if bytes_eq name wanted then Some value else behind rest

-- the value of the key among so many items
abbrev pub declared_within : ℕ → (wanted : List ℕ) → (text : List ℕ) → Option (List ℕ)
declared_within zero wanted text = None
declared_within (suc items) wanted text = declared_at (declared_within items wanted) wanted (first_item text)

-- each item has some bytes, so a text has no more items than bytes; one more finds its end
abbrev pub declared_as : (text : List ℕ) → (wanted : List ℕ) → Option (List ℕ)
declared_as text wanted = declared_within (length text + 1) wanted text

abbrev pub declared : (text : List ℕ) → Key → Option (List ℕ)
declared text key = declared_as text (key_name key)

-- (RFC 7143, "SessionType")
abbrev pub session_type_in : Option (List ℕ) → Option SessionType
session_type_in None = Some Normal
session_type_in (Some value) =
    if bytes_eq value (codes "Normal") then Some Normal
    else if bytes_eq value (codes "Discovery") then Some Discovery
    else None
