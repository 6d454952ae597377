-- The header of a Login Response (RFC 7143, "Login Response").
use Rattle.std.specs.Prelude.{ℕ, false, Option, Some, None, is_some, unwrap_or}
use Rattle.iscsi_pdu.specs.declared.stage.Stage.{Stage}
use Rattle.iscsi_pdu.specs.declared.stage.Stage.TheVariants as stage
use Rattle.iscsi_pdu.specs.declared.serial_number.SerialNumber.{SerialNumber}
use Rattle.iscsi_pdu.specs.declared.login_request.LoginRequest.{LoginRequest}
use Rattle.iscsi_pdu.specs.declared.login_response.LoginResponse.{LoginResponse}
use Rattle.iscsi_pdu.specs.declared.login_status.LoginStatus.{LoginStatus}
use Rattle.iscsi_pdu.specs.declared.login_status.LoginStatus.TheVariants as status
use Rattle.iscsi_login.specs.declared.login.LoginEnd.TheVariants as ends
use Rattle.iscsi_login.specs.declared.login.LoginStep.{LoginStep}
use Rattle.iscsi_login.specs.declared.login.LoginStep.TheVariants.{Continues, Ends}

abbrev pub status_of : LoginStep → LoginStatus
status_of (Continues next) = status.Success
status_of (Ends (ends.FullFeature f)) = status.Success
status_of (Ends (ends.Refused s)) = s

-- with T
abbrev pub next_stage_of : LoginStep → Option Stage
next_stage_of (Continues next) = next
next_stage_of (Ends (ends.FullFeature f)) = Some stage.FullFeaturePhase
next_stage_of (Ends (ends.Refused s)) = None

-- a session has its number once it is there
abbrev pub tsih_of : LoginStep → (requested own : ℕ) → ℕ
tsih_of (Continues next) requested own = requested
tsih_of (Ends (ends.FullFeature f)) requested own = own
tsih_of (Ends (ends.Refused s)) requested own = requested

-- without T there is no NSG, which then is 0
abbrev pub response_of : LoginStep → LoginRequest → (tsih : ℕ) → (stat_sn max_cmd_sn : SerialNumber) → LoginResponse
response_of step r tsih stat_sn max_cmd_sn = record {
  transit = is_some (next_stage_of step);
  continues = false;
  current_stage = r.current_stage;
  next_stage = unwrap_or (next_stage_of step) stage.SecurityNegotiation;
  version_max = 0;
  version_active = 0;
  isid = r.isid;
  tsih = tsih_of step r.tsih tsih;
  initiator_task_tag = r.initiator_task_tag;
  stat_sn = stat_sn;
  exp_cmd_sn = r.cmd_sn;
  max_cmd_sn = max_cmd_sn;
  status = status_of step;
}
