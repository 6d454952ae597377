-- What a server has served, and what it wrote at its end.
use Rattle.std.specs.Prelude.{◌≡◌, ℕ, List, [], length, All, Option}
use Rattle.logical_unit.specs.UnitView.{UnitView}
use Rattle.lun_router.specs.Opening.{IsSince}
use Rattle.lun_router.specs.Seats.{SeatValue}
use Rattle.library_service.specs.ClosedLibrary.{IsClosed}
use Rattle.output_lines.specs.declared.audit_lines.Audit.{Audit}
use Rattle.output_lines.specs.RecordOutputs.{of_the_rest}
use Rattle.output_lines.specs.declared.record_output.RecordOutput.{RecordOutput}
use Rattle.output_lines.specs.declared.record_output.RecordOutput.TheVariants.{AtTheEnd, AsTheyCome}
use Rattle.library_server.specs.Batches.{HandsOut}
use Rattle.library_server.specs.ServedSeats.{IsOfSessions}

-- a library that was closed, over the units of a target and with so many seats, of which each was told of the sessions of one worker alone
pub record ClosesOver (core : List UnitView) (count : ℕ) (audit : Audit) (written written' : Option (List ℕ)) : Type 0 where
  pub since_of : ℕ → ℕ
  pub seats : List SeatValue
  pub many : length seats ≡ count
  pub served : All (IsOfSessions (length core)) seats
  pub since : IsSince core since_of
  pub closed : IsClosed seats audit since_of written written'

-- what is written before the end: nothing, or the lines of records as units handed them out, each time a legal trail
abbrev pub WritesBefore : RecordOutput → (written written' : Option (List ℕ)) → Type 0
WritesBefore (AtTheEnd audit) written written' = written' ≡ written
WritesBefore AsTheyCome written written' = HandsOut written written' [] []

-- the same from one time to another, where lines are left of records that were handed out
abbrev pub WritesOut : RecordOutput → (written written' : Option (List ℕ)) → (left left' : List ℕ) → Type 0
WritesOut (AtTheEnd audit) written written' left left' = written' ≡ written
WritesOut AsTheyCome written written' left left' = HandsOut written written' left left'

-- a server of so many workers that wrote its lines at the end, behind those that it wrote as they came, if it was to write some then
pub record ServesLibrary (core : List UnitView) (count : ℕ) (records : RecordOutput) (written written' : Option (List ℕ)) : Type 0 where
  pub before : Option (List ℕ)
  pub as_they_came : WritesBefore records written before
  pub rest : ClosesOver core count (of_the_rest records) before written'
