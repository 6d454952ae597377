use Rattle.std.proofs.Common.{◌≡◌, length}
use Rattle.logical_unit.specs.UnitView.{units_of}
use Rattle.library_start.specs.Starting.{units_over}
use Rattle.library_start.proofs.start.units_over.Given as goal

-- the changer, and the drives that the loop has passed
abbrev pub invariant-drives : goal.invariant-drives
invariant-drives l =
    (units_of l.units.items ≡ units_over l.fn.hosts l.count (record { elements = l.fn.shelves.elements; drives = l.yielded }))
    × (l.lun ≡ length l.yielded)
