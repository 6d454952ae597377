use Rattle.std.proofs.Common.{arith}
use Rattle.std.proofs.lemmas.Grind.{common_steps}
use Rattle.record_lines.proofs.lines.records_text.Goals as goal

pub entries-preserved : goal.entries-preserved
entries-preserved c = grind (arith, common_steps)

pub returns-clause-text : goal.returns-clause-text
returns-clause-text c = grind (arith, common_steps)
