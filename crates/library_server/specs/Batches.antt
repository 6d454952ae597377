-- Records that a unit handed out, as long as not all of their lines are written.
use Rattle.std.specs.Prelude.{◌≡◌, ◌⊎◌, ℕ, Bool, true, false, List, [], ◌++◌, ◌-◌, length, drop, slice_get, All, Option, Some, None}
use Rattle.std.specs.List.{flat_map}
use Rattle.std.specs.Option.{option_map}
use Rattle.audit_log.specs.declared.record.Record.{Record}
use Rattle.lun_router.specs.Answering.{IsSomeTrail}
use Rattle.output_lines.specs.AuditLines.{lines_of_records}
use Rattle.output_lines.specs.LeftLines as lines
use Rattle.output_lines.specs.LeftLines.{GoesOn, whole_if}
use Rattle.output_lines.specs.UnwrittenLines.{unwritten_records}
use Rattle.output_lines.specs.declared.unwritten_records.UnwrittenRecords.{UnwrittenRecords}
use Rattle.server.specs.declared.event.Event.{Event}
use Rattle.server.specs.declared.event.Event.TheVariants as event
use Rattle.library_server.specs.declared.batch.Batch.{Batch}

-- the number of the last of records, where there are any
abbrev pub number_of_last : List Record → Option ℕ
number_of_last es = option_map (λ (e : Record). e.number) (slice_get es (length es - 1))

-- what is left of the lines of a batch
abbrev pub left_in : Batch → List ℕ
left_in b = lines.left_in b.left

-- those of the records that are without a line
abbrev pub unwritten_in : Batch → Option UnwrittenRecords
unwritten_in b = unwritten_records b.lun (drop (whole_if b.left.lines) b.left.records.items)

-- what a unit hands out at once: nothing, or a legal trail
abbrev pub AreDrained : List Record → Type 0
AreDrained es = (es ≡ []) ⊎ IsSomeTrail es

-- what was left, and then the lines of the records of units, were written as far as they no longer are left
pub record HandsOut (written written' : Option (List ℕ)) (left left' : List ℕ) : Type 0 where
  pub batches : List (List Record)
  pub drained : All AreDrained batches
  pub goes_on : GoesOn written written' (left ++ flat_map lines_of_records batches) left'

-- what is told of how handing out went, by whether lines couldn't be written before and now: where that changes
abbrev pub change_of : (was_failing is_failing : Bool) → Option Event
change_of false false = None
change_of false true = Some event.Kept
change_of true false = Some event.CaughtUp
change_of true true = None
