-- Values of worked rows.
use Rattle.std.specs.Prelude.{ℕ, ◌+◌, zero, suc, Bool, true, false, List, [], ◌∷◌, ◌++◌, Some, None, replicate}
use Rattle.iscsi_pdu.specs.declared.serial_number.SerialNumber.{SerialNumber}
use Rattle.iscsi_pdu.specs.declared.task_attribute.TaskAttribute.TheVariants.{Simple}
use Rattle.iscsi_pdu.specs.declared.scsi_command.ScsiCommand.{ScsiCommand}
use Rattle.iscsi_pdu.specs.declared.data_out.DataOut.{DataOut}
use Rattle.iscsi_keys.specs.declared.parameters.SessionParameters.{SessionParameters}
use Rattle.scsi_sense.specs.declared.status.Status.TheVariants.{Good}
use Rattle.iscsi_tasks.specs.declared.sequence.DataSequence.{DataSequence}
use Rattle.iscsi_tasks.specs.declared.held_reply.UnitReply.{UnitReply}
use Rattle.tickets.specs.declared.ticket.ReplyTicket.{ReplyTicket}
use Rattle.iscsi_tasks.specs.declared.held_reply.HeldReply.{HeldReply}
use Rattle.iscsi_tasks.specs.Values.{TaskValue, TasksValue, begun_tasks}
use Rattle.iscsi_tasks.specs.Commands.{begun_task}
use Rattle.iscsi_tasks.specs.Runs.{Act, Answered, AskedNext, Commanded, DataCame, run}

abbrev pub sn : ℕ → SerialNumber
sn n = record { number = n }

-- bursts of 8 bytes, the first of 6
abbrev pub bursts : (immediate_data initial_r2t : Bool) → SessionParameters
bursts immediate_data initial_r2t = record {
  max_send_data_segment_length = 8192;
  max_burst_length = 8;
  first_burst_length = 6;
  initial_r2t = initial_r2t;
  immediate_data = immediate_data;
  default_time2wait = 2;
}

-- a write of so many bytes
abbrev pub write : (length : ℕ) → (is_final : Bool) → ScsiCommand
write length is_final = record {
  immediate = false;
  is_final = is_final;
  reads = false;
  writes = true;
  task_attribute = Simple;
  lun = 0;
  initiator_task_tag = 1;
  expected_data_transfer_length = length;
  cmd_sn = sn 1;
  exp_stat_sn = sn 0;
  cdb = replicate 16 0;
}

abbrev pub data_out : (tag number offset : ℕ) → (is_final : Bool) → DataOut
data_out tag number offset is_final = record {
  is_final = is_final;
  lun = 0;
  initiator_task_tag = 1;
  target_transfer_tag = tag;
  exp_stat_sn = sn 0;
  data_sn = sn number;
  buffer_offset = offset;
}

-- what an R2T with tag 5 has asked for, up to the eighth byte, behind its first Data-Out
abbrev pub begun : DataSequence
begun = record { target_transfer_tag = 5; end = 8; data_sn = sn 1 }

-- the same under another tag or number, or for immediate delivery
abbrev pub tagged : (tag : ℕ) → ScsiCommand → ScsiCommand
tagged tag c = record c { initiator_task_tag = tag }

abbrev pub at_number : (number : ℕ) → ScsiCommand → ScsiCommand
at_number number c = record c { cmd_sn = sn number }

abbrev pub urgent : ScsiCommand → ScsiCommand
urgent c = record c { immediate = true }

-- no command is under way, and the next number is 1
abbrev pub alone : TasksValue
alone = begun_tasks (bursts true false) 12 (sn 1)

-- so many commands wait for their data
abbrev pub behind : ScsiCommand → (count : ℕ) → TasksValue
behind c count = record alone { waiting = replicate count (begun_task (bursts true false) c []) }

-- with a command in hand, or with replies that are held
abbrev pub handing : ScsiCommand → TasksValue
handing c = record alone { in_hand = Some c }

abbrev pub good : UnitReply
good = record { handed_over = 4; status = Good; sense = None; data_length = 0; data_ins = 0 }

-- for something that is to be kept, and for a record of unit 1 beside it
abbrev pub ticket_for : (thing number : ℕ) → ReplyTicket
ticket_for thing number = record { kept = Some (record { thing = thing; number = number }); handed_out = None }

abbrev pub ticket_with_record : (thing number record_number : ℕ) → ReplyTicket
ticket_with_record thing number record_number =
    record { kept = Some (record { thing = thing; number = number }); handed_out = Some (record { lun = 1; number = record_number }) }

abbrev pub reply_to : ScsiCommand → (thing number : ℕ) → HeldReply
reply_to c thing number = record { command = c; reply = good; ticket = ticket_for thing number }

abbrev pub reply_with_record : ScsiCommand → (thing number record_number : ℕ) → HeldReply
reply_with_record c thing number record_number =
    record { command = c; reply = good; ticket = ticket_with_record thing number record_number }

abbrev pub holding : List HeldReply → TasksValue
holding replies = record alone { replies = replies }

-- behind commands without data with these numbers, each of which is answered if it is executed
abbrev pub after_numbers : TasksValue → (numbers : List ℕ) → TasksValue
after_numbers s [] = s
after_numbers s (number ∷ numbers) = after_numbers (run s (Commanded (at_number number (write 0 true)) [] ∷ (Answered ∷ []))) numbers

-- so many writes wait for their data, under the tags from 1 on
abbrev pub waiting_tags : (count : ℕ) → List TaskValue
waiting_tags zero = []
waiting_tags (suc before) = waiting_tags before ++ begun_task (bursts true false) (tagged (before + 1) (write 4 true)) [] ∷ []

abbrev pub with_tags : (count : ℕ) → TasksValue
with_tags count = record alone { waiting = waiting_tags count }

-- a write of four bytes under tag 1 and such a number, two of which come with it, and two by the tag of an R2T; it is executed and answered
abbrev pub in_halves : (number asked_by : ℕ) → (first second : List ℕ) → List Act
in_halves number asked_by first second =
    Commanded (at_number number (write 4 true)) first
    ∷ (AskedNext ∷ (DataCame (data_out asked_by 0 2 true) second ∷ (AskedNext ∷ (Answered ∷ []))))

-- and then another one under the same tag
abbrev pub one_tag_twice : List Act
one_tag_twice = in_halves 1 0 (7 ∷ 8 ∷ []) (9 ∷ 10 ∷ []) ++ in_halves 2 1 (1 ∷ 2 ∷ []) (3 ∷ 4 ∷ [])
