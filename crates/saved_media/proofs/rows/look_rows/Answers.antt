use Rattle.std.proofs.Common.{refl}
use Rattle.saved_media.specs.LookRows.{marked_volume}
use Rattle.saved_media.proofs.rows.look_rows.Goals as goal

pub returns-clause-passed_over : goal.returns-clause-passed_over
returns-clause-passed_over c kept part absent = absent (marked_volume 2 c.args.b) refl refl
