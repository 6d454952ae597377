-- A login as it goes over a connection: texts gathered from requests with C, answers in pieces, responses numbered (RFC 7143,
-- "Login Phase", "Login Request", "Login Response").
use Rattle.std.specs.Prelude.{◌≡◌, ℕ, ◌+◌, ◌%◌, ◌^◌, Bool, nat_lt, ◌&&◌, ◌||◌, List, [], ◌++◌, length, take, drop, Option, Some, None, unwrap_or, if◌then◌else◌}
use Rattle.iscsi_pdu.specs.Pdus.{target_bytes}
use Rattle.iscsi_pdu.specs.SerialNumbers.{next}
use Rattle.iscsi_pdu.specs.declared.serial_number.SerialNumber.{SerialNumber}
use Rattle.iscsi_pdu.specs.declared.login_request.LoginRequest.{LoginRequest}
use Rattle.iscsi_pdu.specs.declared.login_response.LoginResponse.{LoginResponse}
use Rattle.iscsi_pdu.specs.declared.login_status.LoginStatus.{LoginStatus}
use Rattle.iscsi_pdu.specs.declared.login_status.LoginStatus.TheVariants as status
use Rattle.iscsi_pdu.specs.declared.target_header.TargetHeader.TheVariants as target_headers
use Rattle.iscsi_keys.specs.declared.key.Key.TheVariants as key
use Rattle.iscsi_login.specs.AnswerTexts.{answer_text}
use Rattle.iscsi_login.specs.Logins.{begun, refused, step_of}
use Rattle.iscsi_login.specs.Names.{declared}
use Rattle.iscsi_login.specs.Responses.{response_of}
use Rattle.iscsi_login.specs.Turns.{Judgement, limit_of, judgement}
use Rattle.iscsi_login.specs.declared.admitted.Admitted.{Admitted}
use Rattle.iscsi_chap.specs.declared.challenge.Challenge.{Challenge}
use Rattle.iscsi_login.specs.declared.chap.ChapState.{ChapState}
use Rattle.iscsi_chap.specs.declared.phase.ChapPhase.TheVariants as phase
use Rattle.iscsi_login.specs.declared.target.LoginTarget.{LoginTarget}
use Rattle.iscsi_login.specs.declared.login.Login.{Login}
use Rattle.iscsi_login.specs.declared.login.Login.TheVariants.{Open, Ended}
use Rattle.iscsi_login.specs.declared.login.LoginEnd.{LoginEnd}
use Rattle.iscsi_login.specs.declared.login.LoginEnd.TheVariants as ends
use Rattle.iscsi_login.specs.declared.login.LoginStep.{LoginStep}
use Rattle.iscsi_login.specs.declared.login.LoginStep.TheVariants.{Continues, Ends}
use Rattle.iscsi_login.specs.declared.progress.LoginProgress.{LoginProgress}
use Rattle.iscsi_login.specs.declared.progress.LoginProgress.TheVariants as progress
use Rattle.iscsi_login.specs.declared.turn.Turn.{Turn}
use Rattle.iscsi_login.specs.declared.turn.Turn.TheVariants.{Refuses, Goes, Stays}

pub record ExchangeValue : Type 0 where
  pub login : Login
  -- the name that the initiator has given
  pub name : List ℕ
  -- the text that requests with C have begun
  pub gathered : List ℕ
  -- what of an answer hasn't gone out yet
  pub unsent : List ℕ
  -- the request that awaits its response, or had it last
  pub last : Option LoginRequest
  -- of the next response
  pub stat_sn : SerialNumber
  pub chap : ChapState

abbrev pub started : (group : ℕ) → Option Challenge → ExchangeValue
started group challenge = record { login = begun group; name = []; gathered = []; unsent = []; last = None; stat_sn = record { number = 0 }; chap = record { challenge = challenge; phase = phase.Unasked } }

-- commands with 32 numbers are taken, ExpCmdSN the first
abbrev pub window_end : SerialNumber → SerialNumber
window_end n = record { number = (n.number + 31) % 2 ^ 32 }

-- one response: of what is unsent as much as fits, and C where more is left
abbrev pub piece : ExchangeValue → List ℕ
piece e = take (limit_of e.login) e.unsent

abbrev pub has_more : ExchangeValue → Bool
has_more e = nat_lt (limit_of e.login) (length e.unsent)

abbrev pub header_of : ExchangeValue → LoginStep → LoginRequest → (tsih : ℕ) → LoginResponse
header_of e step r tsih = record (response_of step r tsih e.stat_sn (window_end r.cmd_sn)) { continues = has_more e }

abbrev pub response : ExchangeValue → LoginStep → LoginRequest → (tsih : ℕ) → List ℕ
response e step r tsih = target_bytes (record { header = target_headers.LoginResponse (header_of e step r tsih); payload = piece e })

-- once it went out
abbrev pub responded : ExchangeValue → ExchangeValue
responded e = record e { unsent = drop (limit_of e.login) e.unsent; stat_sn = next e.stat_sn }

-- the login is refused, with what it has gathered; a request that has had its response has no other
abbrev pub ended : ExchangeValue → LoginStatus → ExchangeValue
ended e s = record e { login = refused s; gathered = []; unsent = []; last = None }

abbrev pub refused_after : Option LoginRequest → ExchangeValue → LoginStatus → ExchangeValue
refused_after None e s = ended e s
refused_after (Some r) e s = responded (ended e s)

unfoldable pub refused_with : ExchangeValue → LoginStatus → ExchangeValue
refused_with e s = refused_after e.last e s

abbrev pub refusal_after : Option LoginRequest → ExchangeValue → LoginStatus → List ℕ
refusal_after None e s = []
refusal_after (Some r) e s = response (ended e s) (Ends (ends.Refused s)) r 0

unfoldable pub refusal : ExchangeValue → LoginStatus → List ℕ
refusal e s = refusal_after e.last e s

-- the last response, where a request awaits it
abbrev pub accepted_after : Login → Option LoginRequest → ExchangeValue → ExchangeValue
accepted_after (Ended (ends.FullFeature f)) (Some r) e = responded (record e { last = None })
accepted_after _ _ e = e

unfoldable pub accepted : ExchangeValue → ExchangeValue
accepted e = accepted_after e.login e.last e

abbrev pub last_after : Login → Option LoginRequest → ExchangeValue → (tsih : ℕ) → List ℕ
last_after (Ended (ends.FullFeature f)) (Some r) e tsih = response e (Ends (ends.FullFeature f)) r tsih
last_after _ _ e tsih = []

unfoldable pub last_response : ExchangeValue → (tsih : ℕ) → List ℕ
last_response e tsih = last_after e.login e.last e tsih

-- a request that asks for the next piece of an answer is empty and without C; a text has 65,536 bytes at most
abbrev pub is_out_of_turn : ExchangeValue → LoginRequest → (payload : List ℕ) → Bool
is_out_of_turn e r payload =
    nat_lt 65536 (length e.gathered + length payload) || (nat_lt 0 (length e.unsent) && (r.continues || nat_lt 0 (length payload)))

-- the name that counts is that of the first text
abbrev pub name_unless : Option Admitted → (text name : List ℕ) → List ℕ
name_unless None text name = unwrap_or (declared text key.InitiatorName) []
name_unless (Some a) text name = name

abbrev pub name_in : Login → (text name : List ℕ) → List ℕ
name_in (Open l) text name = name_unless l.admitted text name
name_in (Ended end) text name = name

abbrev pub named : ExchangeValue → LoginRequest → List ℕ
named e r = if r.continues then e.name else name_in e.login e.gathered e.name

-- a request with its text
abbrev pub heard : ExchangeValue → LoginRequest → (payload : List ℕ) → ExchangeValue
heard e r payload = record e { last = Some r; gathered = e.gathered ++ payload }

abbrev pub noted : ExchangeValue → LoginRequest → ExchangeValue
noted e r = record e { name = named e r }

abbrev pub judgement_in : ExchangeValue → LoginTarget → LoginRequest → Judgement
judgement_in e target r = judgement e.login e.name e.chap target r e.gathered

-- with the answer to it
abbrev pub judged : ExchangeValue → LoginTarget → LoginRequest → ExchangeValue
judged e target r = record e {
  unsent = e.unsent ++ answer_text e.login target r e.gathered ++ (judgement_in e target r).answer;
  chap = record e.chap { phase = (judgement_in e target r).phase };
}

abbrev pub turn_in : ExchangeValue → LoginTarget → LoginRequest → Turn
turn_in e target r = (judgement_in e target r).turn (length (judged e target r).unsent)

-- a text goes on behind a request with C
abbrev pub kept : ExchangeValue → LoginRequest → List ℕ
kept e r = if r.continues then e.gathered else []

abbrev pub moved_on : ExchangeValue → LoginRequest → Login → ExchangeValue
moved_on e r l = record e { login = l; gathered = kept e r }

abbrev pub gone : Turn → ExchangeValue → LoginRequest → ExchangeValue
gone (Refuses s) e r = refused_with e s
gone (Goes (Ended end)) e r = moved_on e r (Ended end)
gone (Goes (Open l)) e r = responded (moved_on e r (Open l))
gone (Stays l) e r = responded (moved_on e r l)

abbrev pub told : Turn → ExchangeValue → LoginRequest → List ℕ
told (Refuses s) e r = refusal e s
told (Goes (Ended end)) e r = []
told (Goes (Open l)) e r = response (moved_on e r (Open l)) (step_of (Open l) r) r 0
told (Stays l) e r = response (moved_on e r l) (Continues None) r 0

abbrev pub end_progress : LoginEnd → LoginProgress
end_progress (ends.FullFeature f) = progress.Begins f
end_progress (ends.Refused s) = progress.Refused s

abbrev pub turn_progress : Turn → LoginProgress
turn_progress (Refuses s) = progress.Refused s
turn_progress (Goes (Ended end)) = end_progress end
turn_progress (Goes (Open l)) = progress.Answered
turn_progress (Stays l) = progress.Answered

-- a request in its turn
abbrev pub ready : ExchangeValue → LoginRequest → (payload : List ℕ) → ExchangeValue
ready e r payload = noted (heard e r payload) r

abbrev pub taken_open : ExchangeValue → LoginTarget → LoginRequest → (payload : List ℕ) → ExchangeValue
taken_open e target r payload =
    if is_out_of_turn e r payload then refused_with (record e { last = Some r }) status.InitiatorError
    else gone (turn_in (ready e r payload) target r) (judged (ready e r payload) target r) r

abbrev pub told_open : ExchangeValue → LoginTarget → LoginRequest → (payload : List ℕ) → List ℕ
told_open e target r payload =
    if is_out_of_turn e r payload then refusal (record e { last = Some r }) status.InitiatorError
    else told (turn_in (ready e r payload) target r) (judged (ready e r payload) target r) r

abbrev pub progress_open : ExchangeValue → LoginTarget → LoginRequest → (payload : List ℕ) → LoginProgress
progress_open e target r payload =
    if is_out_of_turn e r payload then progress.Refused status.InitiatorError
    else turn_progress (turn_in (ready e r payload) target r)

-- a login that has ended stays as it ended
abbrev pub taken_at : Login → ExchangeValue → LoginTarget → LoginRequest → (payload : List ℕ) → ExchangeValue
taken_at (Ended end) e target r payload = e
taken_at (Open l) e target r payload = taken_open e target r payload

unfoldable pub taken : ExchangeValue → LoginTarget → LoginRequest → (payload : List ℕ) → ExchangeValue
taken e target r payload = taken_at e.login e target r payload

abbrev pub told_at : Login → ExchangeValue → LoginTarget → LoginRequest → (payload : List ℕ) → List ℕ
told_at (Ended end) e target r payload = []
told_at (Open l) e target r payload = told_open e target r payload

unfoldable pub answer_to : ExchangeValue → LoginTarget → LoginRequest → (payload : List ℕ) → List ℕ
answer_to e target r payload = told_at e.login e target r payload

abbrev pub progress_at : Login → ExchangeValue → LoginTarget → LoginRequest → (payload : List ℕ) → LoginProgress
progress_at (Ended end) e target r payload = end_progress end
progress_at (Open l) e target r payload = progress_open e target r payload

unfoldable pub progress_of : ExchangeValue → LoginTarget → LoginRequest → (payload : List ℕ) → LoginProgress
progress_of e target r payload = progress_at e.login e target r payload

abbrev pub IsRefused : ExchangeValue → LoginStatus → Type 0
IsRefused e s = e.login ≡ refused s

-- memory was refused, and the login with it
abbrev pub HasFailed : ExchangeValue → Type 0
HasFailed e = IsRefused e status.OutOfResources
