-- What a call at a library of so many units answers, as far as its answer alone says it.
use Rattle.std.specs.Prelude.{◌≡◌, ◌⊎◌, ◌≤◌, ℕ, List, []}
use Rattle.scsi_sense.specs.declared.condition.Condition.TheVariants.{LogicalUnitNotSupported}
use Rattle.audit_log.specs.declared.record.Record.{Record}
use Rattle.judgement.specs.Replies.{AnswersAbsent, busy, check, good}
use Rattle.judgement.specs.declared.reply.Reply.{Reply}
use Rattle.judgement.specs.UnitStateView.{UnitStateView}
use Rattle.logical_unit.specs.Legal.{IsTrail}
use Rattle.logical_unit.specs.UnitView.{Base}

-- a unit that isn't there answers as one; BUSY comes also where the seat has no room for an entry
abbrev pub AnswersAsAbsent : (units lun : ℕ) → (cdb : List ℕ) → Reply → Type 0
AnswersAsAbsent units lun cdb reply = units ≤ lun → (reply ≡ busy) ⊎ AnswersAbsent cdb reply

-- a command that has left no record is BUSY, or its unit isn't there
abbrev pub LeavesNoneFor : (units lun : ℕ) → (numbers : List (ℕ × ℕ)) → Reply → Type 0
LeavesNoneFor units lun numbers reply = numbers ≡ [] → (reply ≡ busy) ⊎ (units ≤ lun)

-- nor has a loss, which is GOOD then where the nexus has no slot
abbrev pub LosesNoneFor : (units lun : ℕ) → (numbers : List (ℕ × ℕ)) → Reply → Type 0
LosesNoneFor units lun numbers reply = numbers ≡ [] → (reply ≡ busy) ⊎ ((reply ≡ good []) ⊎ (units ≤ lun))

-- the loss of a nexus and a reset at a unit that isn't there
abbrev pub RefusesAsAbsent : (units lun : ℕ) → Reply → Type 0
RefusesAsAbsent units lun reply = units ≤ lun → (reply ≡ busy) ⊎ (reply ≡ check LogicalUnitNotSupported)

-- the records lead as a legal trail from one base to what is kept after them
abbrev pub IsSomeTrail : List Record → Type 0
IsSomeTrail es = (base : Base) × (now : UnitStateView) × IsTrail base es now
