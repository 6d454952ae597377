use Rattle.std.proofs.Common.{rules}
use Rattle.logical_unit.proofs.audit.next_line.Goals as goal

pub returns-clause-line : goal.returns-clause-line
returns-clause-line c = search rules fits 100
