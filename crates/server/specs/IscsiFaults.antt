-- What is told of the faults of sessions of iSCSI (profile).
use Rattle.std.specs.Prelude.{ℕ, List, codes}
use Rattle.iscsi_pdu.specs.declared.login_status.LoginStatus.{LoginStatus}
use Rattle.iscsi_pdu.specs.declared.login_status.LoginStatus.TheVariants as status
use Rattle.iscsi_session.specs.declared.fault.IscsiFault.{IscsiFault}
use Rattle.iscsi_session.specs.declared.fault.IscsiFault.TheVariants as iscsi

-- a login that was refused, by what its initiator was told
abbrev pub refusal_words : LoginStatus → List ℕ
refusal_words status.Success = codes "login refused"
refusal_words status.TargetMovedTemporarily = codes "login refused"
refusal_words status.TargetMovedPermanently = codes "login refused"
refusal_words status.InitiatorError = codes "login refused: bad request or key"
refusal_words status.AuthenticationFailure = codes "login refused: authentication failed"
refusal_words status.AuthorizationFailure = codes "login refused: its name is not let in"
refusal_words status.NotFound = codes "login refused: no such target"
refusal_words status.TargetRemoved = codes "login refused"
refusal_words status.UnsupportedVersion = codes "login refused: no such version"
refusal_words status.TooManyConnections = codes "login refused: a session with a second connection"
refusal_words status.MissingParameter = codes "login refused: a key is missing"
refusal_words status.CannotIncludeInSession = codes "login refused: a session with a second connection"
refusal_words status.SessionTypeNotSupported = codes "login refused: no such type of session"
refusal_words status.SessionDoesNotExist = codes "login refused: no such session"
refusal_words status.InvalidDuringLogin = codes "login refused: another PDU came"
refusal_words status.TargetError = codes "login refused: fault of the target"
refusal_words status.ServiceUnavailable = codes "login refused: the server ends"
refusal_words status.OutOfResources = codes "login refused: already connected, or no room"
refusal_words status.Reserved = codes "login refused"

abbrev pub iscsi_words : IscsiFault → List ℕ
iscsi_words (iscsi.Refused status) = refusal_words status
iscsi_words (iscsi.BadPdu fault) = codes "bad PDU"
iscsi_words iscsi.TooMuchData = codes "too much data waits"
iscsi_words iscsi.Silent = codes "nothing came in time"
iscsi_words iscsi.Read = codes "a read failed"
iscsi_words iscsi.Write = codes "a write failed"
iscsi_words iscsi.NoMemory = codes "want of memory"
