-- What a login asks for, by the session that lives as its nexus (RFC 7143, "Session Reinstatement, Closure, and Timeout",
-- "Connection Reinstatement", and "Status-Class and Status-Detail").
use Rattle.std.specs.Prelude.{ℕ, ◌==◌, Option, Some, None, if◌then◌else◌}
use Rattle.iscsi_pdu.specs.declared.login_status.LoginStatus.TheVariants.{SessionDoesNotExist, TooManyConnections}
use Rattle.iscsi_session.specs.declared.claiming.SessionIdentity.{SessionIdentity}
use Rattle.iscsi_session.specs.declared.claiming.Claim.{Claim}
use Rattle.iscsi_session.specs.declared.claiming.Claim.TheVariants.{New, PlaceOf, Refused}

-- beside a session of its ISID: with TSIH 0 or that session's it is to be in its place, but for a second connection
abbrev pub claim_beside : (tsih cid : ℕ) → SessionIdentity → Claim
claim_beside tsih cid s =
    if tsih == 0 then PlaceOf s
    else if tsih == s.tsih then (if cid == s.cid then PlaceOf s else Refused TooManyConnections)
    else Refused SessionDoesNotExist

-- without one TSIH 0 asks for a new session, and another names none
abbrev pub claim_alone : (tsih : ℕ) → Claim
claim_alone tsih = if tsih == 0 then New else Refused SessionDoesNotExist

abbrev pub claim : (isid tsih cid : ℕ) → Option SessionIdentity → Claim
claim isid tsih cid None = claim_alone tsih
claim isid tsih cid (Some s) = if isid == s.isid then claim_beside tsih cid s else claim_alone tsih

-- a session, for worked rows
abbrev pub row_session : SessionIdentity
row_session = record { isid = 0xA; tsih = 3; cid = 1 }
