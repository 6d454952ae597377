-- The text that answers a text request in full feature (RFC 7143, "Text Request", "SendTargets Operation").
use Rattle.std.specs.Prelude.{ℕ, ◌+◌, ◌==◌, ◌&&◌, nat_le, zero, suc, Bool, List, [], ◌∷◌, ◌++◌, length, codes, string_bytes, Option, Some, None, is_some, if◌then◌else◌}
use Rattle.std.specs.List.{flat_map}
use Rattle.std.specs.Str.{bytes_eq}
use Rattle.iscsi_keys.specs.IscsiNames.{is_same_name}
use Rattle.std.specs.Fmt.{decimal}
use Rattle.iscsi_keys.specs.Numbers.{number_in}
use Rattle.iscsi_keys.specs.Texts.{ItemValue, End, Pair, Invalid, first_item, item_bytes}
use Rattle.iscsi_answers.specs.declared.send_targets.PortalAddress.{PortalAddress}

-- a portal by its address and its group; that of the connection by the address that it came to
abbrev pub shown_address : (group : ℕ) → (own : List ℕ) → PortalAddress → List ℕ
shown_address group own p = if p.group == group then own else string_bytes p.address

abbrev pub address_item : (group : ℕ) → (own : List ℕ) → PortalAddress → List ℕ
address_item group own p = codes "TargetAddress=" ++ (shown_address group own p ++ (44 ∷ (decimal p.group ++ 0 ∷ [])))

-- the target, and each portal that it is reached by
unfoldable pub target_items : (name : List ℕ) → (group : ℕ) → (own : List ℕ) → List PortalAddress → List ℕ
target_items name group own portals = item_bytes (codes "TargetName") name ++ flat_map (address_item group own) portals

-- how a value of SendTargets is meant: it is All in a discovery session alone, and says nothing in a normal one alone
abbrev pub names_all : (discovery : Bool) → (value : List ℕ) → Bool
names_all discovery value = if discovery then bytes_eq value (codes "All") else length value == 0

abbrev pub is_misplaced : (discovery : Bool) → (value : List ℕ) → Bool
is_misplaced discovery value = if discovery then length value == 0 else bytes_eq value (codes "All")

-- a name of another target has none
abbrev pub send_targets : (discovery : Bool) → (name targets value : List ℕ) → List ℕ
send_targets discovery name targets value =
    if names_all discovery value then targets
    else if is_misplaced discovery value then item_bytes (codes "SendTargets") (codes "Reject")
    else if is_same_name value name then targets
    else []

-- the length that the initiator declares anew, from 512 to 16,777,215 bytes
abbrev pub length_in_range : Option ℕ → Option ℕ
length_in_range None = None
length_in_range (Some n) = if nat_le 512 n && nat_le n 16777215 then Some n else None

abbrev pub declared_length : (value : List ℕ) → Option ℕ
declared_length value = length_in_range (number_in value)

abbrev pub new_length : (value : List ℕ) → List ℕ
new_length value = if is_some (declared_length value) then [] else item_bytes (codes "MaxRecvDataSegmentLength") (codes "Reject")

unfoldable pub text_item : (discovery : Bool) → (name targets key value : List ℕ) → List ℕ
text_item discovery name targets key value =
    if bytes_eq key (codes "SendTargets") then send_targets discovery name targets value
    else if bytes_eq key (codes "MaxRecvDataSegmentLength") then new_length value
    else item_bytes key (codes "NotUnderstood")

abbrev pub text_items_at : (behind : List ℕ → List ℕ) → (discovery : Bool) → (name targets : List ℕ) → ItemValue → List ℕ
text_items_at behind discovery name targets End = []
text_items_at behind discovery name targets (Invalid fault) = []
text_items_at behind discovery name targets (Pair key value rest) = text_item discovery name targets key value ++ behind rest

abbrev pub text_items_within : ℕ → (discovery : Bool) → (name targets : List ℕ) → (text : List ℕ) → List ℕ
text_items_within zero discovery name targets text = []
text_items_within (suc items) discovery name targets text =
    text_items_at (text_items_within items discovery name targets) discovery name targets (first_item text)

-- key by key, up to the end of the text or to what is no item: each has some bytes, so a text has no more of them than bytes, and one more finds its end
abbrev pub text_items : (discovery : Bool) → (name targets : List ℕ) → (text : List ℕ) → List ℕ
text_items discovery name targets text = text_items_within (length text + 1) discovery name targets text
