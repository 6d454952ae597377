use Rattle.std.proofs.Common.{add-one}
use Rattle.status_reader.proofs.Growing.{shown_next}
use Rattle.status_reader.proofs.reading.read_library.Goals as goal

pub units-preserved : goal.units-preserved
units-preserved g c =
    let more = shown_next g.B.Ledgers.profile c.units.lun c.units.units.items c.in_ok-unit.unit c.units.invariant c.in_ok-unit.ensures in
    rw (add-one, c.in_ok-push.ensures.items) more
