-- Worked rows: what seats have noted that agrees with a trail of drive 1, and what doesn't. Five numbers were used before; the trail has record 6, of
-- A's TEST UNIT READY, and record 7, of a volume that came in by B's move at the changer.
use Rattle.std.specs.Prelude.{ℕ, List, [], ◌∷◌, Some, None}
use Rattle.scsi_cdb.specs.declared.classes.Class.TheVariants as class
use Rattle.scsi_nexus.specs.declared.nexus.Nexus.{Nexus}
use Rattle.scsi_sense.specs.declared.status.Status.{Status}
use Rattle.scsi_sense.specs.declared.status.Status.TheVariants.{Good, ReservationConflict}
use Rattle.audit_log.specs.declared.act.Act.TheVariants as act
use Rattle.audit_log.specs.declared.record.Record.{Record}
use Rattle.audit_log.specs.declared.stage.Stage.TheVariants.{Device}
use Rattle.logical_unit.specs.declared.act_kind.ActKind.TheVariants as kind
use Rattle.logical_unit.specs.declared.entry.Entry.{Entry}
use Rattle.settled_numbers.specs.declared.number_range.NumberRange.{NumberRange}
use Rattle.kept_unit.specs.Agreeing.{Agrees}
use Rattle.kept_unit.specs.Listing.{NotesValue}
use Rattle.kept_unit.specs.RangeRows.{six, six_to_seven, seven}

abbrev pub a : Nexus
a = record { sas = 0x500000000000000A; port = 1 }

abbrev pub b : Nexus
b = record { sas = 0x500000000000000B; port = 1 }

abbrev pub ready : Status → Record
ready status = record { number = 6; nexus = Some a; act = act.Command class.TestUnitReady; stage = Device; cell = None; rule = None; status = status; sense = None; told = None }

abbrev pub came_in : Record
came_in = record { number = 7; nexus = None; act = act.MediumIn; stage = Device; cell = None; rule = None; status = Good; sense = None; told = None }

abbrev pub trail : List Record
trail = ready Good ∷ came_in ∷ []

-- what A and B were told; the move is also record 9 of the changer
abbrev pub asked : Entry
asked = record { nexus = Some a; lun = 1; act = Some (kind.Command class.TestUnitReady); status = Good; sense = None; numbers = (1, 6) ∷ [] }

abbrev pub moved : Entry
moved = record { nexus = Some b; lun = 0; act = Some (kind.Command class.MoveMedium); status = Good; sense = None; numbers = (0, 9) ∷ (1, 7) ∷ [] }

-- a seat that has only entries
abbrev pub listing : List Entry → NotesValue
listing es = record { handed_over = 0; settled = []; listed = es }

-- and one with a range that was settled before
abbrev pub behind : NumberRange → List Entry → NotesValue
behind r es = record { handed_over = 0; settled = r ∷ []; listed = es }

-- and one that handed numbers over up to one
abbrev pub handed_up_to : ℕ → List Entry → NotesValue
handed_up_to n es = record { handed_over = n; settled = []; listed = es }

-- what was handed over and what each seat has noted agrees with the records of drive 1 behind a base
abbrev pub AgreesWith : (base : ℕ) → List Record → List NumberRange → List NotesValue → Type 0
AgreesWith base records handed_over seats = Agrees (λ (n : NotesValue). n) 1 5 base records handed_over seats

-- the same where nothing was handed over
abbrev pub AgreesBehind : (base : ℕ) → List Record → List NotesValue → Type 0
AgreesBehind base records seats = AgreesWith base records [] seats

pub record AgreementRows : Type 0 where
  pub two_seats : AgreesBehind 5 trail (listing (asked ∷ []) ∷ listing (moved ∷ []) ∷ [])
  pub other_order : AgreesBehind 5 trail (listing (moved ∷ []) ∷ listing (asked ∷ []) ∷ [])
  pub one_seat : AgreesBehind 5 trail (listing (asked ∷ moved ∷ []) ∷ [])
  -- records that were handed out
  pub handed_out : AgreesBehind 7 [] (listing (asked ∷ []) ∷ listing (moved ∷ []) ∷ [])
  -- and numbers of such that were settled: 6 behind an entry, at another seat, and both
  pub settled : AgreesBehind 6 (came_in ∷ []) (behind six (moved ∷ []) ∷ [])
  pub settled_apart : AgreesBehind 6 (came_in ∷ []) (listing (moved ∷ []) ∷ behind six [] ∷ [])
  pub all_settled : AgreesBehind 7 [] (behind six_to_seven [] ∷ [])
  -- numbers that were handed over: 6 by the seat that was told 7, by another, and all
  pub handed_over : AgreesWith 6 (came_in ∷ []) (six ∷ []) (handed_up_to 6 (moved ∷ []) ∷ [])
  pub handed_over_apart : AgreesWith 6 (came_in ∷ []) (six ∷ []) (listing (moved ∷ []) ∷ handed_up_to 6 [] ∷ [])
  pub all_handed_over : AgreesWith 7 [] (six_to_seven ∷ []) (handed_up_to 7 [] ∷ [])
  -- a number that falls along a seat, also below a settled one, one that nobody was told, and one that was told twice
  pub falling : AgreesBehind 5 trail (listing (moved ∷ asked ∷ []) ∷ []) → ⊥
  pub falling_below : AgreesBehind 7 [] (behind seven (asked ∷ []) ∷ []) → ⊥
  pub untold : AgreesBehind 5 trail (listing (asked ∷ []) ∷ []) → ⊥
  pub gap : AgreesBehind 7 [] (behind seven [] ∷ []) → ⊥
  pub told_twice : AgreesBehind 5 trail (listing (asked ∷ []) ∷ listing (asked ∷ []) ∷ listing (moved ∷ []) ∷ []) → ⊥
  pub settled_twice : AgreesBehind 7 [] (behind six [] ∷ listing (asked ∷ moved ∷ []) ∷ []) → ⊥
  pub handed_over_twice : AgreesWith 7 [] (six_to_seven ∷ []) (listing (asked ∷ []) ∷ []) → ⊥
  pub falling_below_handed_over : AgreesWith 7 [] (seven ∷ []) (handed_up_to 7 (asked ∷ []) ∷ []) → ⊥
  -- a settled number whose record wasn't handed out, and one that was handed over
  pub not_handed_out : AgreesBehind 5 trail (behind six (moved ∷ []) ∷ []) → ⊥
  pub handed_over_early : AgreesWith 5 trail (six ∷ []) (handed_up_to 6 (moved ∷ []) ∷ []) → ⊥
  -- a record with another status
  pub other_status : AgreesBehind 5 (ready ReservationConflict ∷ came_in ∷ []) (listing (asked ∷ []) ∷ listing (moved ∷ []) ∷ []) → ⊥
