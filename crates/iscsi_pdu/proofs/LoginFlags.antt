-- Byte 1 of a login: T, C, CSG and NSG are read again.
use Rattle.std.proofs.Common.{◌≡◌, ℕ, ◌+◌, ◌*◌, ◌/◌, ◌%◌, ◌≤◌, ◌==◌, Bool, true, false, refl, ap, ◌∙◌, arith}
use Rattle.iscsi_pdu.specs.Fields.{at}
use Rattle.iscsi_pdu.specs.Codes.{stage_code, stage_of}
use Rattle.byteorder.specs.Endian.{big_bytes, big_number}
use Rattle.iscsi_pdu.specs.Codes.{login_status_code, login_status_of}
use Rattle.iscsi_pdu.specs.declared.login_status.LoginStatus.{LoginStatus}
use Rattle.iscsi_pdu.specs.declared.login_status.LoginStatus.TheVariants as status
use Rattle.iscsi_pdu.specs.declared.stage.Stage.{Stage}
use Rattle.iscsi_pdu.specs.declared.stage.Stage.TheVariants as stage

stage_again : (s : Stage) → stage_of (stage_code s) ≡ s
stage_again stage.SecurityNegotiation = refl
stage_again stage.LoginOperationalNegotiation = refl
stage_again stage.FullFeaturePhase = refl
stage_again stage.Reserved = refl

small : (s : Stage) → stage_code s ≤ 3
small stage.SecurityNegotiation = omega arith
small stage.LoginOperationalNegotiation = omega arith
small stage.FullFeaturePhase = omega arith
small stage.Reserved = omega arith

-- T, C, and the codes of two stages
abbrev flags : (t c : Bool) → (x y : ℕ) → ℕ
flags t c x y = at 7 t + at 6 c + 4 * x + y

seven : (t c : Bool) (x y : ℕ) → x ≤ 3 → y ≤ 3 → (flags t c x y / 128 % 2 == 1) ≡ t
seven true true x y hx hy = let e : flags true true x y / 128 % 2 ≡ 1 = omega arith in ap (λ (n : ℕ). n == 1) e
seven true false x y hx hy = let e : flags true false x y / 128 % 2 ≡ 1 = omega arith in ap (λ (n : ℕ). n == 1) e
seven false true x y hx hy = let e : flags false true x y / 128 % 2 ≡ 0 = omega arith in ap (λ (n : ℕ). n == 1) e
seven false false x y hx hy = let e : flags false false x y / 128 % 2 ≡ 0 = omega arith in ap (λ (n : ℕ). n == 1) e

six : (t c : Bool) (x y : ℕ) → x ≤ 3 → y ≤ 3 → (flags t c x y / 64 % 2 == 1) ≡ c
six true true x y hx hy = let e : flags true true x y / 64 % 2 ≡ 1 = omega arith in ap (λ (n : ℕ). n == 1) e
six true false x y hx hy = let e : flags true false x y / 64 % 2 ≡ 0 = omega arith in ap (λ (n : ℕ). n == 1) e
six false true x y hx hy = let e : flags false true x y / 64 % 2 ≡ 1 = omega arith in ap (λ (n : ℕ). n == 1) e
six false false x y hx hy = let e : flags false false x y / 64 % 2 ≡ 0 = omega arith in ap (λ (n : ℕ). n == 1) e

three : (t c : Bool) (x y : ℕ) → x ≤ 3 → y ≤ 3 → flags t c x y / 4 % 4 ≡ x
three true true x y hx hy = omega arith
three true false x y hx hy = omega arith
three false true x y hx hy = omega arith
three false false x y hx hy = omega arith

one : (t c : Bool) (x y : ℕ) → x ≤ 3 → y ≤ 3 → flags t c x y / 1 % 4 ≡ y
one true true x y hx hy = omega arith
one true false x y hx hy = omega arith
one false true x y hx hy = omega arith
one false false x y hx hy = omega arith

pub transit_again : (t c : Bool) (s n : Stage) → (flags t c (stage_code s) (stage_code n) / 128 % 2 == 1) ≡ t
transit_again t c s n = seven t c (stage_code s) (stage_code n) (small s) (small n)

pub continues_again : (t c : Bool) (s n : Stage) → (flags t c (stage_code s) (stage_code n) / 64 % 2 == 1) ≡ c
continues_again t c s n = six t c (stage_code s) (stage_code n) (small s) (small n)

pub current_again : (t c : Bool) (s n : Stage) → stage_of (flags t c (stage_code s) (stage_code n) / 4 % 4) ≡ s
current_again t c s n = ap (λ (k : ℕ). stage_of k) (three t c (stage_code s) (stage_code n) (small s) (small n)) ∙ stage_again s

pub next_again : (t c : Bool) (s n : Stage) → stage_of (flags t c (stage_code s) (stage_code n) / 1 % 4) ≡ n
next_again t c s n = ap (λ (k : ℕ). stage_of k) (one t c (stage_code s) (stage_code n) (small s) (small n)) ∙ stage_again n

-- the status of a Login Response
pub status_again : (s : LoginStatus) → login_status_of (big_number 2 (big_bytes 2 (login_status_code s))) ≡ s
status_again status.Success = refl
status_again status.TargetMovedTemporarily = refl
status_again status.TargetMovedPermanently = refl
status_again status.InitiatorError = refl
status_again status.AuthenticationFailure = refl
status_again status.AuthorizationFailure = refl
status_again status.NotFound = refl
status_again status.TargetRemoved = refl
status_again status.UnsupportedVersion = refl
status_again status.TooManyConnections = refl
status_again status.MissingParameter = refl
status_again status.CannotIncludeInSession = refl
status_again status.SessionTypeNotSupported = refl
status_again status.SessionDoesNotExist = refl
status_again status.InvalidDuringLogin = refl
status_again status.TargetError = refl
status_again status.ServiceUnavailable = refl
status_again status.OutOfResources = refl
status_again status.Reserved = refl
