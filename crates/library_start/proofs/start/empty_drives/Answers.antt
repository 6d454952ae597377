use Rattle.std.proofs.Common.{arith}
use Rattle.std.proofs.lemmas.Grind.{common_steps}
use Rattle.library_start.proofs.start.empty_drives.Goals as goal

pub drives-preserved : goal.drives-preserved
drives-preserved c = grind (arith, common_steps)
