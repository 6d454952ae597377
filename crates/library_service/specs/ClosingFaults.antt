-- Which faults may come of closing a library.
use Rattle.std.specs.Prelude.{◌≢◌, ℕ, ⊤}
use Rattle.lun_router.specs.declared.closing.CloseFault.TheVariants as close
use Rattle.library_service.specs.declared.closing_fault.ClosingFault.{ClosingFault}
use Rattle.library_service.specs.declared.closing_fault.ClosingFault.TheVariants as fault

-- which faults may come of closing a library that was made with so many seats, and of writing the lines of its records: a seat is missing only where
-- there aren't as many
abbrev pub MayEndWith : (made seats : ℕ) → ClosingFault → Type 0
MayEndWith made seats (fault.Close close.Mismatch) = ⊤
MayEndWith made seats (fault.Close close.SeatMissing) = seats ≢ made
MayEndWith made seats (fault.Close close.NoMemory) = ⊤
MayEndWith made seats fault.Write = ⊤
MayEndWith made seats fault.NoMemory = ⊤
