use Rattle.std.proofs.Common.{refl, lit≤}
use Rattle.tape_flush.proofs.rows.store_rows.Goals as goal

pub returns-clause-in_part : goal.returns-clause-in_part
returns-clause-in_part c = (2, record { contents = refl; sound = lit≤ tt; all_sound = λ h. lit≤ tt; synced = refl; noted = refl })
