-- What a request whose text is whole makes of a login, where an answer may take several responses (RFC 7143, "Login Response": C).
use Rattle.std.specs.Prelude.{ℕ, Bool, false, nat_le, min, List, [], Option, Some, None, Result, Ok, Err, if◌then◌else◌}
use Rattle.iscsi_pdu.specs.declared.login_request.LoginRequest.{LoginRequest}
use Rattle.iscsi_pdu.specs.declared.login_status.LoginStatus.{LoginStatus}
use Rattle.iscsi_keys.specs.declared.parameters.SessionParameters.{SessionParameters}
use Rattle.iscsi_chap.specs.Authentications.{is_free, proved_by}
use Rattle.iscsi_login.specs.Authentications.{shown_by, after_authentication}
use Rattle.iscsi_login.specs.Chaps.{Verdict, phase_after, answer_in}
use Rattle.iscsi_login.specs.Logins.{stepped, with_proof}
use Rattle.iscsi_login.specs.declared.admitted.Admitted.{Admitted}
use Rattle.iscsi_chap.specs.declared.phase.ChapPhase.{ChapPhase}
use Rattle.iscsi_login.specs.declared.chap.ChapState.{ChapState}
use Rattle.iscsi_chap.specs.declared.authentication.Authentication.{Authentication}
use Rattle.iscsi_login.specs.declared.target.LoginTarget.{LoginTarget}
use Rattle.iscsi_login.specs.declared.login.Login.{Login}
use Rattle.iscsi_login.specs.declared.login.Login.TheVariants.{Open, Ended}
use Rattle.iscsi_login.specs.declared.login.LoginEnd.TheVariants as ends
use Rattle.iscsi_login.specs.declared.turn.Turn.{Turn}
use Rattle.iscsi_login.specs.declared.turn.Turn.TheVariants.{Refuses, Goes, Stays}

-- no longer than the initiator takes, nor than a data segment may be before full feature
abbrev pub piece_limit : SessionParameters → ℕ
piece_limit p = min 8192 p.max_send_data_segment_length

abbrev pub limit_in : Option Admitted → ℕ
limit_in None = 8192
limit_in (Some a) = piece_limit a.negotiation.parameters

-- the most bytes that a response may carry; a refusal has none
abbrev pub limit_of : Login → ℕ
limit_of (Open l) = limit_in l.admitted
limit_of (Ended (ends.FullFeature f)) = piece_limit f.parameters
limit_of (Ended (ends.Refused s)) = 0

-- a request without its T
abbrev pub held : LoginRequest → LoginRequest
held r = record r { transit = false }

abbrev pub turn_if_fits : Login → (stays : Login) → (count : ℕ) → Turn
turn_if_fits next stays count = if nat_le count (limit_of next) then Goes next else Stays stays

-- a response with C has no T, so the login stays in its stage until the last piece
abbrev pub turn_at : (next stays : Login) → (count : ℕ) → Turn
turn_at (Ended (ends.Refused s)) stays count = Refuses s
turn_at (Ended (ends.FullFeature f)) stays count = turn_if_fits (Ended (ends.FullFeature f)) stays count
turn_at (Open l) stays count = turn_if_fits (Open l) stays count

abbrev pub turn_when : (free : Bool) → (next stays : Login) → (count : ℕ) → Turn
turn_when free next stays count = if free then turn_at next stays count else Stays stays

-- T is held back too from who isn't authenticated, and who is has shown an entry; so many bytes are to be sent
abbrev pub turn_by : Authentication → Result ChapPhase LoginStatus → (next stays : Login) → (count : ℕ) → Turn
turn_by authentication (Err fault) next stays count = Refuses fault
turn_by authentication (Ok p) next stays count = turn_when (is_free authentication p) (with_proof next (proved_by authentication p)) stays count

abbrev pub phase_or : ChapPhase → Result ChapPhase LoginStatus → ChapPhase
phase_or old (Ok p) = p
phase_or old (Err fault) = old

-- what is said of the initiator, and how it goes on
pub record Judgement : Type 0 where
  pub turn : (count : ℕ) → Turn
  pub phase : ChapPhase
  pub answer : List ℕ

abbrev pub judgement_by : Authentication → (old : ChapPhase) → (next stays : Login) → (shown : Verdict) → Result ChapPhase LoginStatus → Judgement
judgement_by authentication old next stays shown verdict =
    record { turn = turn_by authentication verdict next stays; phase = phase_or old verdict; answer = answer_in shown }

abbrev pub judgement_on : Authentication → (host : List ℕ) → ChapState → (next stays : Login) → LoginRequest → (text : List ℕ) → Judgement
judgement_on authentication host chap next stays r text =
    let shown = shown_by authentication host chap stays r text in
    judgement_by authentication chap.phase next stays shown (after_authentication authentication stays r (phase_after shown))

-- a login that is refused by its names and keys is so before all
abbrev pub judgement_at : (next : Login) → Authentication → (host : List ℕ) → ChapState → (stays : Login) → LoginRequest → (text : List ℕ) → Judgement
judgement_at (Ended (ends.Refused s)) authentication host chap stays r text = record { turn = λ count. Refuses s; phase = chap.phase; answer = [] }
judgement_at (Ended (ends.FullFeature f)) authentication host chap stays r text = judgement_on authentication host chap (Ended (ends.FullFeature f)) stays r text
judgement_at (Open l) authentication host chap stays r text = judgement_on authentication host chap (Open l) stays r text

abbrev pub judgement : Login → (host : List ℕ) → ChapState → LoginTarget → LoginRequest → (text : List ℕ) → Judgement
judgement l host chap target r text =
    judgement_at (stepped l target r text) target.authentication host chap (stepped l target (held r) text) r text
