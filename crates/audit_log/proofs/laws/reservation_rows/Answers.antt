use Rattle.std.proofs.Common.{refl}
use Rattle.std.specs.Fmt.{char_count, digits, padded_integral}
use Rattle.audit_log.proofs.laws.reservation_rows.Goals as goal

pub returns-clause-exclusive : goal.returns-clause-exclusive
unfolding digits padded_integral char_count
returns-clause-exclusive c = refl

pub returns-clause-registrants_only : goal.returns-clause-registrants_only
unfolding digits padded_integral char_count
returns-clause-registrants_only c = refl
