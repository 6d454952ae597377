-- One event at one unit.
use Rattle.std.specs.Prelude.{◌≡◌, ℕ, ◌+◌, ◌<◌, ◌≤◌, ◌^◌, Bool, true, false, List, [], ◌∷◌, ◌++◌, Option, None, Some, ◌⊎◌}
use Rattle.scsi_nexus.specs.declared.nexus.Nexus.{Nexus}
use Rattle.scsi_sense.specs.declared.sense.Sense.{Sense}
use Rattle.scsi_sense.specs.declared.status.Status.{Status}
use Rattle.scsi_sense.specs.declared.status.Status.TheVariants.{Good, Busy}
use Rattle.unit_attention.specs.Queues.{has_slot}
use Rattle.audit_log.specs.declared.act.Act.{Act}
use Rattle.audit_log.specs.declared.act.Act.TheVariants.{Loss, Reset}
use Rattle.audit_log.specs.declared.record.Record.{Record}
use Rattle.audit_log.specs.declared.stage.Stage.TheVariants.{Device}
use Rattle.device_server.specs.View.{DeviceView, profile_of, commands_of, reset_of}
use Rattle.judgement.specs.declared.decision.Decision.{Decision}
use Rattle.judgement.specs.declared.reply.Reply.{Reply}
use Rattle.judgement.specs.Commands.{decoded_command, act_of}
use Rattle.judgement.specs.Decisions.{at_stage}
use Rattle.judgement.specs.Replies.{busy, good, numbered}
use Rattle.judgement.specs.JudgedUnit.{JudgedUnit}
use Rattle.logical_unit.specs.UnitView.{UnitView, UnitWithRoom, last_number}
use Rattle.judgement.specs.UnitState.{at_power_on, has_room, after_contact, kept_after_loss, kept_after_reset}
use Rattle.judgement.specs.Judge.{judged, takes_memory}

-- a unit whose records will be numbered from one past a last number
abbrev pub made : DeviceView → (lun units last : ℕ) → UnitView
made device lun units last = record {
  device = device;
  state = at_power_on (profile_of device) lun units;
  base = record { state = at_power_on (profile_of device) lun units; last = last };
  records = [];
}

-- the record of an event
abbrev pub record_of : (number : ℕ) → Option Nexus → Act → Decision → Status → Option Sense → Record
record_of number nexus act decision status sense = record {
  number = number;
  nexus = nexus;
  act = act;
  stage = decision.stage;
  cell = decision.cell;
  rule = decision.rule;
  status = status;
  sense = sense;
  told = decision.told;
}

-- a unit after an event: its present, and one record more
abbrev pub with_record : UnitView → JudgedUnit → Record → UnitView
with_record u now e = record { device = now.device; state = now.state; base = u.base; records = u.records ++ e ∷ [] }

-- what a unit's commands are judged by, once the sender made contact
abbrev pub contacted_present : UnitView → Nexus → JudgedUnit
contacted_present u n = record { device = u.device; state = after_contact u.state n }

-- a judged command has a record with the next number, and so has its reply
abbrev pub recorded : UnitView → Nexus → Act → JudgedUnit × Decision × Reply → UnitView × Reply
recorded u n act answer = (
  with_record u answer.0 (record_of (last_number u + 1) (Some n) act answer.1 answer.2.status answer.2.sense),
  numbered answer.2 (last_number u + 1),
)

-- what isn't answered BUSY is a contact, and then judged, and recorded
abbrev pub answered : UnitView → Nexus → (cdb bytes : List ℕ) → UnitView × Reply
answered u n cdb bytes = recorded u n (act_of (commands_of u.device) cdb bytes) (judged (contacted_present u n) n cdb bytes)

-- whether there is a number for one record more
abbrev pub HasNumber : UnitView → Type 0
HasNumber u = last_number u + 1 < 2 ^ 64

-- and for so many
abbrev pub HasNumbers : UnitView → (count : ℕ) → Type 0
HasNumbers u count = last_number u + count < 2 ^ 64

-- BUSY with nothing changed, which must come where there is no slot for the sender or the last record number is used, and may come
-- for want of memory; or the answer
abbrev pub Executes : UnitView → Nexus → (cdb bytes : List ℕ) → UnitView × Reply → Type 0
Executes u n cdb bytes new = (new ≡ (u, busy)) ⊎ ((has_room u.state n ≡ true) × HasNumber u × (new ≡ answered u n cdb bytes))

-- why an event finds no record: there is no room for it, or the last number is used
abbrev pub LacksRecord : UnitWithRoom → Type 0
LacksRecord x = (x.room ≡ 0) ⊎ (last_number x.unit + 1 ≡ 2 ^ 64)

-- and so many
abbrev pub LacksRecords : UnitWithRoom → (count : ℕ) → Type 0
LacksRecords x count = (x.room < count) ⊎ (2 ^ 64 ≤ last_number x.unit + count)

-- a command is BUSY only where it may take memory beside the room for its record, or there is no slot for the sender, no room or no number
abbrev pub IsBusyOnlyFor : UnitWithRoom → Nexus → (cdb bytes : List ℕ) → Reply → Type 0
IsBusyOnlyFor x n cdb bytes reply = reply.status ≡ Busy
    → (takes_memory (contacted_present x.unit n) n (decoded_command (commands_of x.unit.device) cdb bytes) ≡ true)
    ⊎ ((has_room x.unit.state n ≡ false) ⊎ LacksRecord x)

-- an event that isn't a command is BUSY only where there is no room or no number for its record
abbrev pub IsBusyOnlyForRecord : UnitWithRoom → Reply → Type 0
IsBusyOnlyForRecord x reply = reply.status ≡ Busy → LacksRecord x

-- the record of an event that isn't a command
abbrev pub event_of : (number : ℕ) → Option Nexus → Act → Record
event_of number nexus act = record_of number nexus act (at_stage Device) Good None

abbrev pub with_event : UnitView → Option Nexus → Act → JudgedUnit → UnitView
with_event u nexus act now = with_record u now (event_of (last_number u + 1) nexus act)

-- the unit after the loss of a nexus that has a slot, and after a reset, by which the device is reset too
abbrev pub loses : UnitView → Nexus → UnitView
loses u n = with_event u (Some n) Loss (record { device = u.device; state = kept_after_loss u.state n })

abbrev pub resets : UnitView → UnitView
resets u = with_event u None Reset (record { device = reset_of u.device; state = kept_after_reset u.state })

-- a loss that isn't BUSY, with the number of its record: nothing for a nexus without a slot
abbrev pub LosesAs : (known : Bool) → UnitView → Nexus → UnitView × Option ℕ → Type 0
LosesAs false u n new = new ≡ (u, None)
LosesAs true u n new = HasNumber u × (new ≡ (loses u n, Some (last_number u + 1)))

abbrev pub Loses : UnitView → Nexus → UnitView × Option ℕ → Type 0
Loses u n new = LosesAs (has_slot u.state.slots n) u n new

-- a reset that isn't BUSY, with the number of its record
abbrev pub Resets : UnitView → UnitView × ℕ → Type 0
Resets u new = HasNumber u × (new ≡ (resets u, last_number u + 1))

-- GOOD for an event that isn't a command, with the number of its record, 0 where it has none
abbrev pub event_reply : ℕ → Reply
event_reply number = numbered (good []) number

abbrev pub number_or_0 : Option ℕ → ℕ
number_or_0 None = 0
number_or_0 (Some number) = number

-- an I_T nexus loss at a unit: BUSY with nothing changed, where the nexus has a slot; or the loss
abbrev pub IsLost : UnitView → Nexus → UnitView × Reply → Type 0
IsLost u n new =
    ((new ≡ (u, busy)) × (has_slot u.state.slots n ≡ true))
    ⊎ ((number : Option ℕ) × Loses u n (new.0, number) × (new.1 ≡ event_reply (number_or_0 number)))

-- a reset of a unit: BUSY with nothing changed, or the reset
abbrev pub IsReset : UnitView → UnitView × Reply → Type 0
IsReset u new = (new ≡ (u, busy)) ⊎ ((number : ℕ) × Resets u (new.0, number) × (new.1 ≡ event_reply number))

-- once its records are handed out: the present is the base
abbrev pub drained : UnitView → UnitView
drained u = record {
  device = u.device;
  state = u.state;
  base = record { state = u.state; last = last_number u };
  records = [];
}
