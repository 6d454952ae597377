-- Whether an initiator may go on, by what it has shown of itself (RFC 7143, "Security Negotiation").
use Rattle.std.specs.Prelude.{ℕ, Bool, true, false, not, ◌&&◌, ◌||◌, List, Option, Some, None, Result, Ok, Err, if◌then◌else◌}
use Rattle.iscsi_pdu.specs.declared.stage.Stage.{Stage}
use Rattle.iscsi_pdu.specs.declared.stage.Stage.TheVariants as stage
use Rattle.iscsi_pdu.specs.declared.login_request.LoginRequest.{LoginRequest}
use Rattle.iscsi_pdu.specs.declared.login_status.LoginStatus.{LoginStatus}
use Rattle.iscsi_pdu.specs.declared.login_status.LoginStatus.TheVariants as status
use Rattle.iscsi_keys.specs.Negotiations.{was_offered}
use Rattle.iscsi_keys.specs.declared.key.Key.TheVariants as key
use Rattle.iscsi_chap.specs.Authentications.{is_passed}
use Rattle.iscsi_login.specs.Chaps.{Verdict, silent, chap_turn}
use Rattle.iscsi_login.specs.declared.admitted.Admitted.{Admitted}
use Rattle.iscsi_chap.specs.declared.phase.ChapPhase.{ChapPhase}
use Rattle.iscsi_login.specs.declared.chap.ChapState.{ChapState}
use Rattle.iscsi_login.specs.declared.login.Login.{Login}
use Rattle.iscsi_login.specs.declared.login.Login.TheVariants.{Open, Ended}
use Rattle.iscsi_chap.specs.declared.authentication.Authentication.{Authentication}
use Rattle.iscsi_chap.specs.declared.authentication.Authentication.TheVariants as authentication

abbrev pub is_agreed_in : Option Admitted → Bool
is_agreed_in None = false
is_agreed_in (Some a) = was_offered a.negotiation key.AuthMethod

-- the method is agreed once AuthMethod was answered
abbrev pub is_agreed : Login → Bool
is_agreed (Open l) = is_agreed_in l.admitted
is_agreed (Ended end) = false

abbrev pub is_security : Stage → Bool
is_security stage.SecurityNegotiation = true
is_security stage.LoginOperationalNegotiation = false
is_security stage.FullFeaturePhase = false
is_security stage.Reserved = false

-- who isn't authenticated yet is so in security negotiation, and wants to leave it only with a method agreed
abbrev pub may_wait : LoginRequest → (agreed : Bool) → Bool
may_wait r agreed = is_security r.current_stage && (agreed || not r.transit)

abbrev pub may_go_on : Authentication → (stays : Login) → LoginRequest → ChapPhase → Bool
may_go_on authentication.None stays r p = true
may_go_on (authentication.Chap access) stays r p = r.continues || is_passed p || may_wait r (is_agreed stays)

-- what a text shows, where `stays` is the login with it and without T; with C more of the text is to come
abbrev pub shown_by : Authentication → (host : List ℕ) → ChapState → (stays : Login) → LoginRequest → (text : List ℕ) → Verdict
shown_by authentication.None host chap stays r text = silent chap.phase
shown_by (authentication.Chap access) host chap stays r text =
    if r.continues then silent chap.phase
    else chap_turn access host chap.challenge (is_agreed stays) chap.phase text

-- the phase that the initiator has come to, where it may go on
abbrev pub after_authentication : Authentication → (stays : Login) → LoginRequest → (shown : Result ChapPhase LoginStatus) → Result ChapPhase LoginStatus
after_authentication authentication stays r (Err fault) = Err fault
after_authentication authentication stays r (Ok p) = if may_go_on authentication stays r p then Ok p else Err status.AuthenticationFailure
