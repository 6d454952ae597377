-- Values that are words: of lists, whose elements commas part, and Booleans (RFC 7143, "Text Format").
use Rattle.std.specs.Prelude.{ℕ, ◌==◌, Bool, true, false, List, codes, Option, Some, None, if◌then◌else◌}
use Rattle.std.specs.List.{list_any, slice_split}
use Rattle.std.specs.Str.{bytes_eq}
use Rattle.iscsi_keys.specs.declared.word.Word.{Word}
use Rattle.iscsi_keys.specs.declared.word.Word.TheVariants as word

abbrev pub word_text : Word → List ℕ
word_text word.None = codes "None"
word_text word.Chap = codes "CHAP"
word_text word.Rfc3720 = codes "RFC3720"

-- a comma is 44
abbrev pub has_word : (value word : List ℕ) → Bool
has_word value word = list_any (λ element. bytes_eq element word) (slice_split (λ b. b == 44) value)

abbrev pub boolean_in : (value : List ℕ) → Option Bool
boolean_in value =
    if bytes_eq value (codes "Yes") then Some true
    else if bytes_eq value (codes "No") then Some false
    else None
