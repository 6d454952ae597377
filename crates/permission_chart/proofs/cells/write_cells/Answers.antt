use Rattle.std.proofs.Common.{rules}
use Rattle.permission_chart.proofs.cells.write_cells.Goals as goal

pub returns-in-Some : goal.returns-in-Some
returns-in-Some g c = search rules
