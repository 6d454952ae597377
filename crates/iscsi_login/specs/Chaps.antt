-- Authentication by CHAP (RFC 7143, "Challenge Handshake Authentication Protocol (CHAP)"; RFC 1994): the initiator offers
-- algorithms, the target takes one and challenges, the initiator responds, and may challenge the target.
use Rattle.std.specs.Prelude.{ℕ, Bool, not, nat_lt, nat_le, ◌&&◌, ◌||◌, List, [], ◌++◌, length, Option, Some, None, is_some, Result, Ok, Err, if◌then◌else◌}
use Rattle.std.specs.Fmt.{decimal}
use Rattle.std.specs.Str.{bytes_eq}
use Rattle.iscsi_pdu.specs.declared.login_status.LoginStatus.{LoginStatus}
use Rattle.iscsi_pdu.specs.declared.login_status.LoginStatus.TheVariants as status
use Rattle.iscsi_keys.specs.Numbers.{number_in}
use Rattle.iscsi_keys.specs.Texts.{item_bytes}
use Rattle.iscsi_chap.specs.Algorithms.{algorithm_number, chosen_algorithm}
use Rattle.iscsi_chap.specs.Binaries.{binary_value, hexadecimal}
use Rattle.iscsi_chap.specs.Digests.{chap_digest}
use Rattle.iscsi_chap.specs.Entries.{entry_among}
use Rattle.iscsi_chap.specs.Responses.{is_response}
use Rattle.iscsi_chap.specs.declared.algorithm.ChapAlgorithm.{ChapAlgorithm}
use Rattle.iscsi_chap.specs.declared.algorithm.ChapDigests.{ChapDigests}
use Rattle.iscsi_chap.specs.declared.authentication.ChapAccess.{ChapAccess}
use Rattle.iscsi_chap.specs.declared.entry.ChapEntry.{ChapEntry}
use Rattle.iscsi_chap.specs.declared.entry.Credentials.{Credentials}
use Rattle.iscsi_login.specs.ChapKeys.{algorithm_key, identifier_key, challenge_key, name_key, response_key}
use Rattle.iscsi_login.specs.Names.{declared_as}
use Rattle.iscsi_chap.specs.declared.challenge.Challenge.{Challenge}
use Rattle.iscsi_chap.specs.declared.phase.ChapPhase.{ChapPhase}
use Rattle.iscsi_chap.specs.declared.phase.ChapPhase.TheVariants as phase

-- what a text comes to by its keys of CHAP: a phase and an answer
pub record ChapStep : Type 0 where
  pub phase : ChapPhase
  pub answer : List ℕ

abbrev pub Verdict : Type 0
Verdict = Result ChapStep LoginStatus

abbrev pub silent : ChapPhase → Verdict
silent p = Ok (record { phase = p; answer = [] })

-- all that doesn't prove an initiator is refused alike
abbrev pub unproven : Verdict
unproven = Err status.AuthenticationFailure

abbrev pub phase_after : Verdict → Result ChapPhase LoginStatus
phase_after (Ok step) = Ok step.phase
phase_after (Err fault) = Err fault

abbrev pub answer_in : Verdict → List ℕ
answer_in (Ok step) = step.answer
answer_in (Err fault) = []

abbrev pub says : (text key : List ℕ) → Bool
says text key = is_some (declared_as text key)

-- a challenge of the initiator's own
abbrev pub says_challenge : (text : List ℕ) → Bool
says_challenge text = says text identifier_key || says text challenge_key

abbrev pub says_response : (text : List ℕ) → Bool
says_response text = says text name_key || says text response_key || says_challenge text

abbrev pub says_any : (text : List ℕ) → Bool
says_any text = says text algorithm_key || says_response text

abbrev pub challenge_items : ChapAlgorithm → Challenge → List ℕ
challenge_items algorithm challenge =
    item_bytes algorithm_key (decimal (algorithm_number algorithm))
    ++ item_bytes identifier_key (decimal challenge.identifier)
    ++ item_bytes challenge_key (hexadecimal challenge.bytes)

abbrev pub challenged : Option Challenge → Option ChapAlgorithm → Verdict
challenged challenge None = unproven
challenged None (Some algorithm) = Err status.TargetError
challenged (Some challenge) (Some algorithm) =
    Ok (record { phase = phase.Challenged algorithm; answer = challenge_items algorithm challenge })

abbrev pub asked_for : ChapDigests → Option Challenge → (is_agreed : Bool) → (list : Option (List ℕ)) → Verdict
asked_for digests challenge is_agreed None = silent phase.Unasked
asked_for digests challenge is_agreed (Some list) = if is_agreed then challenged challenge (chosen_algorithm digests list) else unproven

-- algorithms come once CHAP is agreed, and a response behind the challenge
abbrev pub asked : ChapDigests → Option Challenge → (is_agreed : Bool) → (text : List ℕ) → Verdict
asked digests challenge is_agreed text =
    if says_response text then unproven else asked_for digests challenge is_agreed (declared_as text algorithm_key)

abbrev pub byte_in : Option ℕ → Option ℕ
byte_in None = None
byte_in (Some n) = if nat_lt n 256 then Some n else None

abbrev pub identifier_in : (value : List ℕ) → Option ℕ
identifier_in value = byte_in (number_in value)

-- a challenge has 1 to 1,024 bytes, and isn't the target's own sent back
abbrev pub is_own : Challenge → (bytes : List ℕ) → Bool
is_own challenge bytes = nat_lt 0 (length bytes) && nat_le (length bytes) 1024 && not (bytes_eq bytes challenge.bytes)

abbrev pub response_items : ChapAlgorithm → Credentials → (identifier : ℕ) → (bytes : List ℕ) → List ℕ
response_items algorithm target identifier bytes =
    item_bytes name_key target.user.items
    ++ item_bytes response_key (hexadecimal (chap_digest algorithm identifier target.secret.items bytes))

abbrev pub shown_as : (place : ℕ) → ChapAlgorithm → Challenge → Option Credentials → (identifier : Option ℕ) → (bytes : Option (List ℕ)) → Verdict
shown_as place algorithm challenge (Some target) (Some identifier) (Some bytes) =
    if is_own challenge bytes then Ok (record { phase = phase.Passed place; answer = response_items algorithm target identifier bytes })
    else unproven
shown_as place algorithm challenge _ _ _ = unproven

-- the initiator passes by the entry at the place, and the target proves itself where the initiator wants it to
abbrev pub shown : (place : ℕ) → ChapAlgorithm → Challenge → Option Credentials → (identifier bytes : Option (List ℕ)) → Verdict
shown place algorithm challenge target None None = silent (phase.Passed place)
shown place algorithm challenge target (Some identifier) (Some bytes) =
    shown_as place algorithm challenge target (identifier_in identifier) (binary_value bytes)
shown place algorithm challenge target _ _ = unproven

abbrev pub proven : ChapAlgorithm → Challenge → Option (ℕ × ChapEntry) → (response text : List ℕ) → Verdict
proven algorithm challenge None response text = unproven
proven algorithm challenge (Some (place, entry)) response text =
    if is_response algorithm challenge entry.own.secret.items response
    then shown place algorithm challenge entry.target (declared_as text identifier_key) (declared_as text challenge_key)
    else unproven

abbrev pub answered_by : List ChapEntry → (host : List ℕ) → Challenge → ChapAlgorithm → (text : List ℕ) → (user response : Option (List ℕ)) → Verdict
answered_by entries host challenge algorithm text None None =
    if says_challenge text then unproven else silent (phase.Challenged algorithm)
answered_by entries host challenge algorithm text (Some user) (Some response) =
    proven algorithm challenge (entry_among entries host user) response text
answered_by entries host challenge algorithm text _ _ = unproven

abbrev pub answered : List ChapEntry → (host : List ℕ) → Option Challenge → ChapAlgorithm → (text : List ℕ) → Verdict
answered entries host None algorithm text = Err status.TargetError
answered entries host (Some challenge) algorithm text =
    if says text algorithm_key then Err status.InitiatorError
    else answered_by entries host challenge algorithm text (declared_as text name_key) (declared_as text response_key)

-- a key that was answered doesn't come again
unfoldable pub chap_turn : ChapAccess → (host : List ℕ) → Option Challenge → (is_agreed : Bool) → ChapPhase → (text : List ℕ) → Verdict
chap_turn access host challenge is_agreed phase.Unasked text = asked access.digests challenge is_agreed text
chap_turn access host challenge is_agreed (phase.Challenged algorithm) text = answered access.secrets.entries.items host challenge algorithm text
chap_turn access host challenge is_agreed (phase.Passed place) text =
    if says_any text then Err status.InitiatorError else silent (phase.Passed place)
