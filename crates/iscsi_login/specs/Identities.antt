-- What all requests of a login carry alike (RFC 7143, "Login Request": ISID, TSIH, Initiator Task Tag, CID, CmdSN).
use Rattle.std.specs.Prelude.{◌==◌, ◌&&◌, Bool}
use Rattle.iscsi_pdu.specs.declared.login_request.LoginRequest.{LoginRequest}
use Rattle.iscsi_login.specs.declared.identity.LoginIdentity.{LoginIdentity}

abbrev pub identity_of : LoginRequest → LoginIdentity
identity_of r = record { isid = r.isid; tsih = r.tsih; initiator_task_tag = r.initiator_task_tag; cid = r.cid; cmd_sn = r.cmd_sn }

abbrev pub is_same : LoginIdentity → LoginIdentity → Bool
is_same a b =
    (a.isid == b.isid) && (a.tsih == b.tsih) && (a.initiator_task_tag == b.initiator_task_tag) && (a.cid == b.cid) && (a.cmd_sn.number == b.cmd_sn.number)
