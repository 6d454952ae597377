use Rattle.std.proofs.Common.{rules}
use Rattle.library_start.proofs.start.Shelves.load.Goals as goal

pub returns : goal.returns
returns c = search rules
