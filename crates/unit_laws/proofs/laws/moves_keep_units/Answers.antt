use Rattle.std.specs.Prelude.{[], ◌∷◌}
use Rattle.logical_unit.proofs.SameUnits.{one_same, two_same}
use Rattle.unit_laws.proofs.laws.moves_keep_units.Goals as goal

pub returns-clause-one : goal.returns-clause-one
returns-clause-one g c d v e n cdb bytes r drive = one_same c d v e n cdb bytes r drive []

pub returns-clause-two : goal.returns-clause-two
returns-clause-two g c v ds es n cdb bytes r low high = two_same c v ds es n cdb bytes r low (high ∷ [])
