-- A library that was closed, and what was written of its records.
use Rattle.std.specs.Prelude.{ℕ, List, [], ◌∷◌, ◌++◌, Option, Some, None, IfSome}
use Rattle.std.specs.Io.KnownBytes.{Appends}
use Rattle.logical_unit.specs.UnitView.{UnitView}
use Rattle.lun_router.specs.Closing.{IsAccounted}
use Rattle.lun_router.specs.Seats.{SeatValue}
use Rattle.output_lines.specs.declared.audit_lines.Audit.{Audit}
use Rattle.output_lines.specs.AuditLines.{audit_text}

-- a unit that may be absent
abbrev pub if_there : Option UnitView → List UnitView
if_there None = []
if_there (Some u) = u ∷ []

-- a library that was closed with seats: the numbers of each unit since it was opened stand in their entries, in their settled ranges or in what
-- they handed over, each once, in an entry with what its record says; and the lines that are wanted of the records were written, LUN 0
-- first
pub record IsClosed (seats : List SeatValue) (audit : Audit) (since_of : ℕ → ℕ) (written written' : Option (List ℕ)) : Type 0 where
  pub changer : UnitView
  pub first : UnitView
  pub second : Option UnitView
  pub third : Option UnitView
  pub fourth : Option UnitView
  pub changer_agrees : IsAccounted 0 (since_of 0) changer seats
  pub first_agrees : IsAccounted 1 (since_of 1) first seats
  pub second_agrees : IfSome second (λ u. IsAccounted 2 (since_of 2) u seats)
  pub third_agrees : IfSome third (λ u. IsAccounted 3 (since_of 3) u seats)
  pub fourth_agrees : IfSome fourth (λ u. IsAccounted 4 (since_of 4) u seats)
  pub lines : Appends written written' (audit_text audit (changer ∷ first ∷ if_there second ++ if_there third ++ if_there fourth))
