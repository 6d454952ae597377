-- What a call was asked, what it answered, and what a seat keeps of it.
use Rattle.std.specs.Prelude.{◌≡◌, ◌≢◌, ℕ, List, [], ◌∷◌, count_by, map, filter, Option, None, ◌==◌, if◌then◌else◌}
use Rattle.scsi_nexus.specs.declared.nexus.Nexus.{Nexus}
use Rattle.judgement.specs.declared.reply.Reply.{Reply}
use Rattle.tape_medium.specs.declared.volume.VolumeTag.{VolumeTag}
use Rattle.logical_unit.specs.declared.act_kind.ActKind.{ActKind}
use Rattle.logical_unit.specs.declared.entry.Entry.{Entry}

-- an I_T nexus loss, a reset, or a command, by its CDB and the data sent with it
pub data EventValue : Type 0 where
  Loss : EventValue
  Reset : EventValue
  Command : (cdb bytes : List ℕ) → EventValue

pub record DoneValue : Type 0 where
  pub nexus : Option Nexus
  pub lun : ℕ
  pub asked : EventValue
  pub act : Option ActKind
  -- the one that a command was carried out on, which only `carry_out` and the moves tell
  pub volume : Option VolumeTag
  pub reply : Reply
  -- of each record that the call left the unit's logical unit number, and the record's number
  pub numbers : List (ℕ × ℕ)

-- the number of a unit's own record, 0 for none
abbrev pub own_number : (lun number : ℕ) → List (ℕ × ℕ)
own_number lun number = if number == 0 then [] else (lun, number) ∷ []

-- the numbers at one unit
abbrev pub at : (lun : ℕ) → List (ℕ × ℕ) → List ℕ
at lun ns = map (λ n. n.1) (filter (λ n. n.0 == lun) ns)

-- how many they are
abbrev pub count_at : (lun : ℕ) → List (ℕ × ℕ) → ℕ
count_at lun ns = count_by (λ n. n.0 == lun) ns

-- none is at another unit
abbrev pub OnlyAt : (lun : ℕ) → List (ℕ × ℕ) → Type 0
OnlyAt lun ns = (k : ℕ) → k ≢ lun → count_at k ns ≡ 0

-- the answer is that of this call
abbrev pub IsAnswer : DoneValue → Option Nexus → (lun : ℕ) → EventValue → Type 0
IsAnswer d nexus lun asked = (d.nexus ≡ nexus) × (d.lun ≡ lun) × (d.asked ≡ asked)

-- the call left no record
abbrev pub LeavesNothing : DoneValue → Type 0
LeavesNothing d = (d.numbers ≡ []) × (d.act ≡ None)

-- what a seat keeps of a call
abbrev pub entry_of : DoneValue → Entry
entry_of d = record { nexus = d.nexus; lun = d.lun; act = d.act; status = d.reply.status; sense = d.reply.sense; numbers = d.numbers }
