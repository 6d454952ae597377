use Rattle.std.proofs.Common.{sym, ap, ◌∙◌}
use Rattle.kept_unit.specs.Listing.{listed_at}
use Rattle.kept_unit.specs.Ranges.{rise_to}
use Rattle.kept_unit.proofs.Rises.{listed_falls, listed_rises}
use Rattle.kept_unit.proofs.agree.rising_ranges.Goals as goal

pub returns-in-None : goal.returns-in-None
returns-in-None c =
    listed_falls c.in_ok-ranges.ranges.items c.args.low (listed_at c.args.lun c.args.entries.now) c.in_ok-ranges.ensures (ap (rise_to c.args.low) (sym c.as_slice.ensures.value) ∙ sym c.in-None.ensures)

pub returns-in-Some : goal.returns-in-Some
returns-in-Some c =
    (listed_rises c.in_ok-ranges.ranges.items c.args.low _ (listed_at c.args.lun c.args.entries.now) c.in_ok-ranges.ensures (ap (rise_to c.args.low) (sym c.as_slice.ensures.value) ∙ sym c.in-Some.ensures), c.in_ok-ranges.ensures)
