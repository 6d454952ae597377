-- Values of worked rows.
use Rattle.std.specs.Prelude.{ℕ, true, false, List, [], ◌∷◌, replicate}
use Rattle.iscsi_pdu.specs.Pdus.{InitiatorPduValue}
use Rattle.iscsi_pdu.specs.declared.initiator_header.InitiatorHeader.{InitiatorHeader}
use Rattle.iscsi_pdu.specs.declared.initiator_header.InitiatorHeader.TheVariants as sent
use Rattle.iscsi_pdu.specs.Codes.{logout_reason_of}
use Rattle.iscsi_tasks.specs.Rows.{bursts, data_out, sn, write}
use Rattle.iscsi_tasks.specs.Commands.{begun_task}
use Rattle.iscsi_tasks.specs.Runs.{Act, AskedNext, Commanded, DataCame}
use Rattle.iscsi_tasks.specs.Values.{TasksValue, begun_tasks}

-- tasks that expect such a number first; immediate data are agreed, and unsolicited Data-Out too
abbrev pub expecting : (number : ℕ) → TasksValue
expecting number = begun_tasks (bursts true false) 131053 (sn number)

-- with so many writes that wait for their data; the command that is expected has number 1
abbrev pub waiting : (count : ℕ) → TasksValue
waiting count = record (expecting 1) { waiting = replicate count (begun_task (bursts true false) (write 4 true) []) }

abbrev pub pdu : InitiatorHeader → (payload : List ℕ) → InitiatorPduValue
pdu header payload = record { header = header; extended_cdb = []; payload = payload }

-- a write of four bytes of which two come with it, and the two others, by the tag of an R2T
abbrev pub halves : List Act
halves = Commanded (write 4 true) (7 ∷ 8 ∷ []) ∷ (AskedNext ∷ (DataCame (data_out 0 0 2 true) (9 ∷ 10 ∷ []) ∷ (AskedNext ∷ [])))

abbrev pub command_pdu : InitiatorPduValue
command_pdu = pdu (sent.ScsiCommand (write 4 true)) (7 ∷ 8 ∷ [])

abbrev pub data_pdu : InitiatorPduValue
data_pdu = pdu (sent.DataOut (data_out 0 0 2 true)) (9 ∷ 10 ∷ [])

-- a logout by its code (RFC 7143, "Reason Code" of the Logout Request)
abbrev pub logout_pdu : (code : ℕ) → InitiatorPduValue
logout_pdu code = pdu (sent.LogoutRequest (record {
  immediate = false;
  reason = logout_reason_of code;
  initiator_task_tag = 9;
  cid = 0;
  cmd_sn = sn 2;
  exp_stat_sn = sn 0;
})) []
