-- The answers of a unit. A number of 0 says that there is no record of the event, or not yet.
use Rattle.std.specs.Prelude.{◌≡◌, ℕ, ◌==◌, ◌&&◌, not, nat_lt, List, [], length, take, Option, Some, None, IsSome, if◌then◌else◌, ◌⊎◌}
use Rattle.scsi_cdb.specs.Bits.{bit, byte, two_bytes}
use Rattle.scsi_sense.specs.declared.status.Status.{Status}
use Rattle.scsi_sense.specs.declared.status.Status.TheVariants.{Good, CheckCondition, Busy, ReservationConflict}
use Rattle.scsi_sense.specs.declared.sense.Sense.{Sense}
use Rattle.scsi_sense.specs.declared.condition.Condition.{Condition}
use Rattle.scsi_sense.specs.declared.condition.Condition.TheVariants.{LogicalUnitNotSupported, InvalidFieldInCdb}
use Rattle.scsi_sense.specs.Conditions.{sense_for}
use Rattle.audit_log.specs.declared.stage.Stage.{Stage}
use Rattle.audit_log.specs.declared.stage.Stage.TheVariants.{Fields, Device}
use Rattle.device_server.specs.declared.outcome.Outcome.{Outcome}
use Rattle.judgement.specs.declared.reply.Reply.{Reply}
use Rattle.judgement.specs.UnitData.{absent_inquiry, sense_data}

-- a status alone
abbrev pub plain : Status → Reply
plain status = record { status = status; sense = None; payload = []; number = 0 }

abbrev pub busy : Reply
busy = plain Busy

abbrev pub conflict : Reply
conflict = plain ReservationConflict

abbrev pub good : List ℕ → Reply
good payload = record { status = Good; sense = None; payload = payload; number = 0 }

abbrev pub check : Condition → Reply
check condition = record { status = CheckCondition; sense = Some (sense_for condition); payload = []; number = 0 }

-- what a device answered
abbrev pub replied : Outcome → Reply
replied outcome = record { status = outcome.status; sense = outcome.sense; payload = outcome.payload; number = 0 }

-- data cut at an allocation length, which changes nothing in it, and the stage; a field that isn't right has none
abbrev pub data_reply : Option (List ℕ) → (allocation_length : ℕ) → Stage × Reply
data_reply (Some payload) n = (Device, good (take n payload))
data_reply None n = (Fields, check InvalidFieldInCdb)

-- with the number of the event's record
abbrev pub numbered : Reply → ℕ → Reply
numbered reply number = record reply { number = number }

-- the answer of a unit that doesn't exist to a command: standard INQUIRY data, its own sense data, or 25h/00h
abbrev pub absent_answer : List ℕ → Reply
absent_answer cdb =
    if nat_lt (length cdb) 6 then check LogicalUnitNotSupported
    else if byte cdb 0 == 0x12 && not (bit cdb 1 0) then good (take (two_bytes cdb 3) absent_inquiry)
    else if byte cdb 0 == 0x03 then good (take (byte cdb 4) (sense_data LogicalUnitNotSupported))
    else check LogicalUnitNotSupported

-- that answer; or BUSY for want of memory, which only data take: the sense data of CHECK CONDITION stand in the reply
abbrev pub AnswersAbsent : List ℕ → Reply → Type 0
AnswersAbsent cdb reply = ((reply ≡ busy) × ((absent_answer cdb).status ≡ Good)) ⊎ (reply ≡ absent_answer cdb)

-- GOOD without sense data, or CHECK CONDITION with it
abbrev pub IsWhole : Status → Option Sense → Type 0
IsWhole status sense = ((status ≡ Good) × (sense ≡ None)) ⊎ ((status ≡ CheckCondition) × IsSome sense)
