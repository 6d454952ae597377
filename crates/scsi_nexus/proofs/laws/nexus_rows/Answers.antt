use Rattle.std.proofs.Common.{refl}
use Rattle.std.specs.Fmt.{char_count, digits, padded_integral}
use Rattle.scsi_nexus.proofs.laws.nexus_rows.Goals as goal

pub returns-clause-ports : goal.returns-clause-ports
unfolding digits padded_integral char_count
returns-clause-ports c = record { none = refl; first = refl; last = refl; fifth = refl; written = refl; padded = refl }
