use Rattle.std.proofs.Common.{arith}
use Rattle.std.proofs.lemmas.Grind.{common_steps}
use Rattle.audit_log.proofs.lines.write_reservation.Goals as goal

pub returns-then-is_all_registrants : goal.returns-then-is_all_registrants
returns-then-is_all_registrants c = grind (arith, common_steps)

pub returns-else-is_all_registrants : goal.returns-else-is_all_registrants
returns-else-is_all_registrants c = grind (arith, common_steps)
