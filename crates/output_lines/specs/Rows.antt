-- Worked rows: the lines of replies, and of the records of units.
use Rattle.std.specs.Prelude.{◌≡◌, ℕ, true, false, List, [], ◌∷◌, ◌++◌, replicate, Option, Some, None, codes}
use Rattle.scsi_cdb.specs.declared.profile.Profile.TheVariants.{Spec}
use Rattle.scsi_nexus.specs.declared.nexus.Nexus.{Nexus}
use Rattle.scsi_sense.specs.declared.sense.Sense.{Sense}
use Rattle.scsi_sense.specs.declared.status.Status.{Status}
use Rattle.scsi_sense.specs.declared.status.Status.TheVariants.{Good, CheckCondition, Busy, ReservationConflict}
use Rattle.audit_log.specs.declared.act.Act.{Act}
use Rattle.audit_log.specs.declared.act.Act.TheVariants.{Loss, Reset, MediumIn}
use Rattle.audit_log.specs.declared.record.Record.{Record}
use Rattle.audit_log.specs.declared.stage.Stage.TheVariants.{Device}
use Rattle.device_server.specs.Drive.{empty_drive}
use Rattle.device_server.specs.View.{Drive}
use Rattle.judgement.specs.declared.reply.Reply.{Reply}
use Rattle.logical_unit.specs.Step.{made}
use Rattle.logical_unit.specs.UnitView.{UnitView}
use Rattle.output_lines.specs.declared.audit_lines.Audit.TheVariants.{Off, Lines, Spans}
use Rattle.output_lines.specs.declared.explained.Explanations.TheVariants as words
use Rattle.output_lines.specs.AuditLines.{audit_text}
use Rattle.output_lines.specs.Explained.{answer_text}
use Rattle.output_lines.specs.Replies.{reply_line, text_of}

abbrev pub reply : Status → Option Sense → List ℕ → Reply
reply status sense payload = record { status = status; sense = sense; payload = payload; number = 7 }

abbrev pub power_on : Sense
power_on = record { valid = false; filemark = false; eom = false; ili = false; key = 6; information = 0; asc = 0x29; ascq = 0 }

-- a block of 400 bytes where 1,000 were asked for
abbrev pub incorrect_length : Sense
incorrect_length = record { valid = true; filemark = false; eom = false; ili = true; key = 0; information = 600; asc = 0; ascq = 0 }

-- a text and a line feed
abbrev pub line : List ℕ → List ℕ
line text = text ++ 10 ∷ []

pub record ReplyLines : Type 0 where
  pub status_alone : reply_line (reply Good None []) ≡ line (codes "00 - -")
  pub busy : reply_line (reply Busy None []) ≡ line (codes "08 - -")
  pub conflict : reply_line (reply ReservationConflict None []) ≡ line (codes "18 - -")
  pub sense : reply_line (reply CheckCondition (Some power_on) []) ≡ line (codes "02 700006000000000a00000000290000000000 -")
  pub payload : reply_line (reply Good None (0 ∷ 0 ∷ 0 ∷ 1 ∷ 0x9F ∷ 0xE8 ∷ [])) ≡ line (codes "00 - 000000019fe8")
  pub both : reply_line (reply CheckCondition (Some incorrect_length) (1 ∷ 2 ∷ []))
      ≡ line (codes "02 f00020000002580a00000000000000000000 0102")
  -- a line for each, in their order
  pub two : text_of (reply Busy None [] ∷ reply Good None [] ∷ []) ≡ line (codes "08 - -") ++ line (codes "00 - -")
  pub none : text_of [] ≡ []

-- READ KEYS, and its data for one key at generation 1
abbrev pub read_keys : List ℕ
read_keys = 0x5E ∷ replicate 6 0 ++ 0 ∷ 0xFF ∷ 0 ∷ []

abbrev pub keys : List ℕ
keys = 0 ∷ 0 ∷ 0 ∷ 1 ∷ 0 ∷ 0 ∷ 0 ∷ 8 ∷ 0x11 ∷ 0x22 ∷ 0x33 ∷ 0x44 ∷ 0x55 ∷ 0x66 ∷ 0x77 ∷ 0x88 ∷ []

-- READ ELEMENT STATUS
abbrev pub read_element_status : List ℕ
read_element_status = 0xB8 ∷ replicate 8 0 ++ 8 ∷ 0 ∷ 0 ∷ []

pub record ExplainedReplies : Type 0 where
  pub off : answer_text words.Off Spec 1 (replicate 6 0) Good None [] ≡ line (codes "00 - -")
  pub good : answer_text words.On Spec 1 (replicate 6 0) Good None [] ≡ line (codes "00 - -") ++ line (codes "# GOOD")
  pub sense : answer_text words.On Spec 1 (replicate 6 0) CheckCondition (Some power_on) []
      ≡ line (codes "02 700006000000000a00000000290000000000 -")
      ++ line (codes "# CHECK CONDITION, UNIT ATTENTION: power on, reset, or bus device reset occurred")
  -- the words are those of the command's data
  pub told : answer_text words.On Spec 1 read_keys Good None keys
      ≡ line (codes "00 - 00000001000000081122334455667788") ++ line (codes "# GOOD, generation 1, keys 1122334455667788")
  -- of a unit that has the command
  pub changer : answer_text words.On Spec 0 read_element_status Good None (replicate 8 0)
      ≡ line (codes "00 - 0000000000000000") ++ line (codes "# GOOD, no elements")
  pub drive : answer_text words.On Spec 1 read_element_status Good None (replicate 8 0)
      ≡ line (codes "00 - 0000000000000000") ++ line (codes "# GOOD, 8 bytes")

abbrev pub entry : ℕ → Option Nexus → Act → Record
entry number nexus act = record {
  number = number;
  nexus = nexus;
  act = act;
  stage = Device;
  cell = None;
  rule = None;
  status = Good;
  sense = None;
  told = None;
}

abbrev pub unit_with : (lun : ℕ) → List Record → UnitView
unit_with lun records = let u = made (Drive empty_drive) lun 3 0 in record u { records = records }

-- a unit with two records, one with none, and one with one record
abbrev pub units : List UnitView
units =
    unit_with 0 (entry 1 None Reset ∷ entry 2 (Some (record { sas = 0x500000000000000A; port = 1 })) Loss ∷ [])
    ∷ unit_with 1 []
    ∷ unit_with 2 (entry 1 None MediumIn ∷ [])
    ∷ []

pub record AuditTexts : Type 0 where
  pub off : audit_text Off units ≡ []
  pub lines : audit_text Lines units
      ≡ line (codes "1 - RESET 6 - - 00") ++ line (codes "2 500000000000000a.1 LOSS 6 - - 00") ++ line (codes "1 - MEDIUM-IN 6 - - 00")
  -- nobody reserved anything
  pub spans : audit_text Spans units
      ≡ line (codes "1 - RESET 6 - - 00 -") ++ line (codes "2 500000000000000a.1 LOSS 6 - - 00 -") ++ line
      (codes "1 - MEDIUM-IN 6 - - 00 -")
