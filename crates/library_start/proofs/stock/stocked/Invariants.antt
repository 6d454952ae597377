use Rattle.std.proofs.Common.{◌≡◌}
use Rattle.library_start.specs.Stock.{stocked_to}
use Rattle.library_start.proofs.stock.stocked.Given as goal

abbrev pub invariant-volumes : goal.invariant-volumes
invariant-volumes l = l.elements ≡ stocked_to l.options l.place
