use Rattle.status_reader.specs.Summaries.{AreShown}
use Rattle.status_reader.proofs.reading.read_library.Given as goal

abbrev pub invariant-units : goal.invariant-units
invariant-units g l = AreShown g.B.Ledgers.profile l.lun l.units.items
