use Rattle.std.proofs.Common.{◌≡◌, ◌+◌, ◌∷◌}
use Rattle.logical_unit.specs.UnitView.{units_of}
use Rattle.library_start.specs.StockedDevices.{drives_to, stocked_changer}
use Rattle.library_start.proofs.power_on.library_within.Given as goal

abbrev pub invariant-drives : goal.invariant-drives
invariant-drives l = units_of l.units.items ≡ stocked_changer l.profile l.options ∷ drives_to l.profile l.place (l.options.drives + 1)
