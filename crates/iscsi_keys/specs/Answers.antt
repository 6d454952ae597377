-- How the target answers a key, as a function of what was offered (RFC 7143, "Text Mode Negotiation").
use Rattle.std.specs.Prelude.{ℕ, ◌&&◌, ◌||◌, nat_le, Bool, List, Option, Some, None, min, max, if◌then◌else◌}
use Rattle.scsi_cdb.specs.declared.profile.Profile.{Profile}
use Rattle.iscsi_keys.specs.Keys.{key_kind, is_of_data_transfer, range}
use Rattle.iscsi_keys.specs.Limits.{most_first_burst}
use Rattle.iscsi_keys.specs.Numbers.{number_in}
use Rattle.iscsi_keys.specs.Words.{word_text, has_word, boolean_in}
use Rattle.iscsi_keys.specs.declared.key.Key.{Key}
use Rattle.iscsi_keys.specs.declared.key.Key.TheVariants as key
use Rattle.iscsi_keys.specs.declared.kind.KeyKind.{KeyKind}
use Rattle.iscsi_keys.specs.declared.kind.KeyKind.TheVariants as kind
use Rattle.iscsi_keys.specs.declared.kind.Range.{Range}
use Rattle.iscsi_keys.specs.declared.word.Word.{Word}
use Rattle.iscsi_keys.specs.declared.answer.KeyAnswer.{KeyAnswer}
use Rattle.iscsi_keys.specs.declared.answer.KeyAnswer.TheVariants as answer
use Rattle.iscsi_keys.specs.declared.answer.Terms.{Terms}

abbrev pub in_range : Range → Option ℕ → Option ℕ
in_range r None = None
in_range r (Some n) = if nat_le r.least n && nat_le n r.most then Some n else None

abbrev pub number_within : Range → (value : List ℕ) → Option ℕ
number_within r value = in_range r (number_in value)

-- a number out of its range or form is rejected
abbrev pub number_answer : (ℕ → ℕ) → Option ℕ → KeyAnswer
number_answer chosen None = answer.Reject
number_answer chosen (Some n) = answer.Number (chosen n)

abbrev pub boolean_answer : (Bool → Bool) → Option Bool → KeyAnswer
boolean_answer chosen None = answer.Reject
boolean_answer chosen (Some said) = answer.Boolean (chosen said)

abbrev pub list_answer : Word → (value : List ℕ) → KeyAnswer
list_answer word value = if has_word value (word_text word) then answer.Word word else answer.Reject

abbrev pub answer_of_kind : (method : Word) → KeyKind → (value : List ℕ) → KeyAnswer
answer_of_kind method kind.Declared value = answer.Nothing
answer_of_kind method (kind.DeclaredNumber r) value = number_answer (λ n. r.own) (number_within r value)
answer_of_kind method (kind.List word) value = list_answer word value
answer_of_kind method kind.AuthMethod value = list_answer method value
answer_of_kind method (kind.Smaller r) value = number_answer (λ n. min n r.own) (number_within r value)
answer_of_kind method (kind.Larger r) value = number_answer (λ n. max n r.own) (number_within r value)
answer_of_kind method (kind.And own) value = boolean_answer (λ said. said && own) (boolean_in value)
answer_of_kind method (kind.Or own) value = boolean_answer (λ said. said || own) (boolean_in value)
answer_of_kind method kind.Obsolete value = answer.Reject

-- the first burst is no longer than a burst, so its greatest value depends on what was agreed, and on the profile
abbrev pub kind_for : Profile → (burst : ℕ) → Key → KeyKind
kind_for profile burst key.FirstBurstLength = kind.Smaller (range 512 16777215 (min (most_first_burst profile) burst))
kind_for profile burst other = key_kind other

abbrev pub answer_to : Terms → (burst : ℕ) → Key → (value : List ℕ) → KeyAnswer
answer_to terms burst key value =
    if terms.discovery && is_of_data_transfer key then answer.Irrelevant
    else answer_of_kind terms.method (kind_for terms.profile burst key) value
