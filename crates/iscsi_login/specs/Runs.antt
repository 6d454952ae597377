-- A login from its first request on.
use Rattle.std.specs.Prelude.{◌≡◌, ℕ, List, [], ◌∷◌, Some, None, Any}
use Rattle.iscsi_pdu.specs.declared.login_request.LoginRequest.{LoginRequest}
use Rattle.iscsi_keys.specs.declared.key.Key.TheVariants as key
use Rattle.iscsi_chap.specs.Accesses.{admitted}
use Rattle.iscsi_login.specs.Names.{declared, session_type_in}
use Rattle.iscsi_login.specs.Admissions.{target_fault}
use Rattle.iscsi_login.specs.Logins.{stepped}
use Rattle.iscsi_chap.specs.declared.access.Admission.{Admission}
use Rattle.iscsi_chap.specs.declared.session_type.SessionType.{SessionType}
use Rattle.iscsi_login.specs.declared.target.LoginTarget.{LoginTarget}
use Rattle.iscsi_login.specs.declared.login.Login.{Login}

-- a request with its text
pub record Coming : Type 0 where
  pub request : LoginRequest
  pub text : List ℕ

abbrev pub run : LoginTarget → Login → List Coming → Login
run target l [] = l
run target l (c ∷ others) = run target (stepped l target c.request c.text) others

-- the text is of an initiator that is let in by its name, as this, and wants such a session of the target
pub record IsEntry (target : LoginTarget) (text : List ℕ) (a : Admission) (s : SessionType) : Type 0 where
  pub name : List ℕ
  pub named : declared text key.InitiatorName ≡ Some name
  pub let_in : admitted target.access name ≡ Some a
  pub of_type : session_type_in (declared text key.SessionType) ≡ Some s
  pub at_target : target_fault target s (declared text key.TargetName) ≡ None

-- one of those that came is
abbrev pub IsEntered : LoginTarget → List Coming → Admission → SessionType → Type 0
IsEntered target comings a s = Any (λ c. IsEntry target c.text a s) comings
