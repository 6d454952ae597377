use Rattle.std.proofs.Common.{refl}
use Rattle.std.specs.Fmt.{char_count, digits, padded_integral}
use Rattle.audit_log.specs.Lines.{line_of}
use Rattle.pr_core.specs.State.{keys_after}
use Rattle.logical_unit.proofs.Replay.{shows_reservations, trails_replay}
use Rattle.unit_laws.proofs.laws.audit_shows_reservations.Goals as goal

pub returns-clause-lines : goal.returns-clause-lines
returns-clause-lines c = shows_reservations

pub returns-clause-replay : goal.returns-clause-replay
returns-clause-replay c = trails_replay

pub returns-clause-rows : goal.returns-clause-rows
unfolding line_of digits padded_integral char_count keys_after
returns-clause-rows c = record { from_power_on = refl; before = refl; none = refl }
