use Rattle.std.proofs.lemmas.Grind.{common_steps}
use Rattle.std.proofs.Common.{◌≡◌, None, arith}
use Rattle.logical_unit.specs.UnitView.{units_of}
use Rattle.target_core.specs.Faults.{fault_of}
use Rattle.library_start.proofs.LibraryLemmas.{in_order}
use Rattle.library_start.proofs.power_on.library_within.Goals as goal

-- the loop made the units of a library, which are in order
pub unreachable-requires : goal.unreachable-requires
unreachable-requires c =
    let all : c.drives.place ≡ c.args.options.now.drives = omega (arith, c.drives-test.false, c.drives.auto.place-end) in
    let ordered : fault_of (units_of c.drives.units.items) ≡ None = rw (c.drives.invariant, all) (in_order c.args.profile c.args.options.now c.requires.range) in
    let fault = c.in-Err.ensures.err.0 in
    absurd cc

pub drives-preserved : goal.drives-preserved
drives-preserved c = grind (arith, common_steps)
