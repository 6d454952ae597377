-- The login phase: what each request makes of a login, and how it is answered (RFC 7143, "Login Phase").
use Rattle.std.specs.Prelude.{ℕ, Bool, true, not, nat_lt, ◌&&◌, ◌||◌, List, Option, Some, None, Result, Ok, Err, if◌then◌else◌}
use Rattle.iscsi_pdu.specs.declared.stage.Stage.{Stage}
use Rattle.iscsi_pdu.specs.declared.stage.Stage.TheVariants as stage
use Rattle.iscsi_pdu.specs.declared.login_request.LoginRequest.{LoginRequest}
use Rattle.iscsi_pdu.specs.declared.login_status.LoginStatus.{LoginStatus}
use Rattle.iscsi_pdu.specs.declared.login_status.LoginStatus.TheVariants as status
use Rattle.iscsi_login.specs.Identities.{identity_of, is_same}
use Rattle.iscsi_login.specs.Stages.{is_awaited, leads_to}
use Rattle.iscsi_login.specs.Admissions.{admitted_by}
use Rattle.iscsi_login.specs.declared.identity.LoginIdentity.{LoginIdentity}
use Rattle.iscsi_login.specs.declared.target.LoginTarget.{LoginTarget}
use Rattle.iscsi_login.specs.declared.admitted.Admitted.{Admitted}
use Rattle.iscsi_login.specs.declared.login.Login.{Login}
use Rattle.iscsi_login.specs.declared.login.Login.TheVariants.{Open, Ended}
use Rattle.iscsi_login.specs.declared.login.OpenLogin.{OpenLogin}
use Rattle.iscsi_login.specs.declared.login.LoginEnd.TheVariants as ends
use Rattle.iscsi_login.specs.declared.login.FullFeature.{FullFeature}
use Rattle.iscsi_login.specs.declared.login.LoginStep.{LoginStep}
use Rattle.iscsi_login.specs.declared.login.LoginStep.TheVariants.{Continues, Ends}

abbrev pub begun : (portal_group : ℕ) → Login
begun group = Open (record { portal_group = group; identity = None; stage = None; admitted = None })

abbrev pub is_its : Option LoginIdentity → LoginRequest → Bool
is_its None r = true
is_its (Some identity) r = is_same identity (identity_of r)

-- a request is of its login, of the stage that is awaited, and with T to a later one; T and C exclude each other
abbrev pub is_legal : OpenLogin → LoginRequest → Bool
is_legal l r =
    is_its l.identity r && is_awaited l.stage r.current_stage && (not r.transit || (not r.continues && leads_to r.current_stage r.next_stage))

-- the target has version 0 alone
abbrev pub request_fault : OpenLogin → LoginRequest → Option LoginStatus
request_fault l r =
    if nat_lt 0 r.version_min then Some status.UnsupportedVersion
    else if is_legal l r then None
    else Some status.InitiatorError

abbrev pub refused : LoginStatus → Login
refused s = Ended (ends.Refused s)

abbrev pub open_at : (group : ℕ) → LoginRequest → Stage → Option Admitted → Login
open_at group r s admitted = Open (record { portal_group = group; identity = Some (identity_of r); stage = Some s; admitted = admitted })

abbrev pub full_feature : (group : ℕ) → LoginRequest → Admitted → FullFeature
full_feature group r a = record {
  portal_group = group;
  admission = a.admission;
  session_type = a.session_type;
  isid = r.isid;
  tsih = r.tsih;
  cid = r.cid;
  cmd_sn = r.cmd_sn;
  parameters = a.negotiation.parameters;
  profile = a.negotiation.terms.profile;
  proved = None;
}

-- the session with the place of the entry that its initiator has shown
abbrev pub with_proof : Login → (proved : Option ℕ) → Login
with_proof (Ended (ends.FullFeature f)) proved = Ended (ends.FullFeature (record f { proved = proved }))
with_proof (Ended (ends.Refused s)) proved = Ended (ends.Refused s)
with_proof (Open l) proved = Open l

abbrev pub moved_to : Stage → (group : ℕ) → LoginRequest → Admitted → Login
moved_to stage.FullFeaturePhase group r a = Ended (ends.FullFeature (full_feature group r a))
moved_to next group r a = open_at group r next (Some a)

-- the target has nothing more to ask, so it goes on to the next stage where the initiator does
abbrev pub moved : (group : ℕ) → LoginRequest → Admitted → Login
moved group r a = if r.transit then moved_to r.next_stage group r a else open_at group r r.current_stage (Some a)

abbrev pub moved_if : (group : ℕ) → LoginRequest → Result Admitted LoginStatus → Login
moved_if group r (Err fault) = refused fault
moved_if group r (Ok a) = moved group r a

-- with C more of the text is to come
abbrev pub taken : OpenLogin → LoginTarget → LoginRequest → (text : List ℕ) → Login
taken l target r text =
    if r.continues then open_at l.portal_group r r.current_stage l.admitted else moved_if l.portal_group r (admitted_by l.admitted target text)

abbrev pub unless_fault : Option LoginStatus → Login → Login
unless_fault (Some fault) l = refused fault
unless_fault None l = l

abbrev pub stepped_open : OpenLogin → LoginTarget → LoginRequest → (text : List ℕ) → Login
stepped_open l target r text = unless_fault (request_fault l r) (taken l target r text)

abbrev pub stepped : Login → LoginTarget → LoginRequest → (text : List ℕ) → Login
stepped (Ended end) target r text = Ended end
stepped (Open l) target r text = stepped_open l target r text

-- how a request is answered that a login has come to this by
abbrev pub step_of : Login → LoginRequest → LoginStep
step_of (Ended end) r = Ends end
step_of (Open l) r = Continues (if r.transit then Some r.next_stage else None)
