-- The text of a Login Response (RFC 7143, "Text Mode Negotiation").
use Rattle.std.specs.Prelude.{ℕ, ◌+◌, zero, suc, Bool, true, false, List, [], ◌++◌, length, codes, Option, Some, None, Result, Ok, Err, if◌then◌else◌}
use Rattle.std.specs.Result.{result_unwrap_or}
use Rattle.std.specs.Fmt.{decimal}
use Rattle.iscsi_pdu.specs.declared.login_request.LoginRequest.{LoginRequest}
use Rattle.iscsi_pdu.specs.declared.login_status.LoginStatus.{LoginStatus}
use Rattle.iscsi_keys.specs.Words.{word_text}
use Rattle.iscsi_keys.specs.declared.word.Word.{Word}
use Rattle.iscsi_keys.specs.declared.word.Word.TheVariants as word
use Rattle.iscsi_keys.specs.Texts.{ItemValue, End, Pair, Invalid, first_item, item_bytes}
use Rattle.iscsi_keys.specs.Negotiations.{answered, negotiated}
use Rattle.iscsi_keys.specs.declared.answer.KeyAnswer.{KeyAnswer}
use Rattle.iscsi_keys.specs.declared.answer.KeyAnswer.TheVariants as answer
use Rattle.iscsi_keys.specs.declared.key.Key.TheVariants as key
use Rattle.iscsi_keys.specs.declared.negotiation.Negotiation.{Negotiation}
use Rattle.iscsi_login.specs.Admissions.{entry_of}
use Rattle.iscsi_login.specs.ChapKeys.{is_chap_key}
use Rattle.iscsi_login.specs.Logins.{stepped}
use Rattle.iscsi_login.specs.Names.{declared}
use Rattle.iscsi_login.specs.declared.target.LoginTarget.{LoginTarget}
use Rattle.iscsi_login.specs.declared.admitted.Admitted.{Admitted}
use Rattle.iscsi_login.specs.declared.login.Login.{Login}
use Rattle.iscsi_login.specs.declared.login.Login.TheVariants.{Open, Ended}
use Rattle.iscsi_login.specs.declared.login.OpenLogin.{OpenLogin}
use Rattle.iscsi_login.specs.declared.login.LoginEnd.TheVariants as ends

-- a key that the initiator has declared is not answered
abbrev pub known_answer : (key : List ℕ) → KeyAnswer → List ℕ
known_answer key answer.Nothing = []
known_answer key (answer.Number n) = item_bytes key (decimal n)
known_answer key (answer.Boolean true) = item_bytes key (codes "Yes")
known_answer key (answer.Boolean false) = item_bytes key (codes "No")
known_answer key (answer.Word word) = item_bytes key (word_text word)
known_answer key answer.Reject = item_bytes key (codes "Reject")
known_answer key answer.NotUnderstood = item_bytes key (codes "NotUnderstood")
known_answer key answer.Irrelevant = item_bytes key (codes "Irrelevant")

-- the keys that authentication by the method answers itself
abbrev pub is_key_of : (method : Word) → (key : List ℕ) → Bool
is_key_of word.Chap key = is_chap_key key
is_key_of word.None key = false
is_key_of word.Rfc3720 key = false

abbrev pub answer_item : (method : Word) → (key : List ℕ) → KeyAnswer → List ℕ
answer_item method key a = if is_key_of method key then [] else known_answer key a

abbrev pub answers_at : (behind : Negotiation → List ℕ → List ℕ) → Negotiation → ItemValue → List ℕ
answers_at behind n End = []
answers_at behind n (Invalid fault) = []
answers_at behind n (Pair key value rest) =
    answer_item n.terms.method key (result_unwrap_or (answered n key value) answer.Nothing) ++ behind (negotiated n key value) rest

abbrev pub answers_within : ℕ → Negotiation → (text : List ℕ) → List ℕ
answers_within zero n text = []
answers_within (suc items) n text = answers_at (answers_within items) n (first_item text)

abbrev pub answers_to : Negotiation → (text : List ℕ) → List ℕ
answers_to n text = answers_within (length text + 1) n text

-- told each initiator that names the target, whatever the session is for (RFC 7143, "TargetPortalGroupTag")
abbrev pub group_tag : (group : ℕ) → (wanted : Option (List ℕ)) → List ℕ
group_tag group None = []
group_tag group (Some name) = item_bytes (codes "TargetPortalGroupTag") (decimal group)

abbrev pub first_answers : (group : ℕ) → (text : List ℕ) → Result Admitted LoginStatus → List ℕ
first_answers group text (Err fault) = []
first_answers group text (Ok a) = group_tag group (declared text key.TargetName) ++ answers_to a.negotiation text

abbrev pub answers_of : (group : ℕ) → Option Admitted → LoginTarget → (text : List ℕ) → List ℕ
answers_of group None target text = first_answers group text (entry_of target text)
answers_of group (Some a) target text = answers_to a.negotiation text

-- to a request with C, whose text goes on, nothing is said yet
abbrev pub open_text : OpenLogin → LoginRequest → LoginTarget → (text : List ℕ) → List ℕ
open_text l r target text = if r.continues then [] else answers_of l.portal_group l.admitted target text

abbrev pub text_before : Login → LoginRequest → LoginTarget → (text : List ℕ) → List ℕ
text_before (Ended end) r target text = []
text_before (Open l) r target text = open_text l r target text

-- a refusal has no text
abbrev pub text_unless_refused : (next l : Login) → LoginRequest → LoginTarget → (text : List ℕ) → List ℕ
text_unless_refused (Ended (ends.Refused fault)) l r target text = []
text_unless_refused (Ended (ends.FullFeature f)) l r target text = text_before l r target text
text_unless_refused (Open next) l r target text = text_before l r target text

abbrev pub answer_text : Login → LoginTarget → LoginRequest → (text : List ℕ) → List ℕ
answer_text l target r text = text_unless_refused (stepped l target r text) l r target text
