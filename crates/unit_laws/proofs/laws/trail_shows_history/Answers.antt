use Rattle.logical_unit.proofs.HistoryOfRecords.{trail_shows}
use Rattle.unit_laws.proofs.laws.trail_shows_history.Goals as goal

pub returns : goal.returns
returns c = trail_shows
