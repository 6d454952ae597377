use Rattle.std.proofs.Common.{arith}
use Rattle.std.proofs.lemmas.Grind.{common_steps}
use Rattle.element_map.proofs.elements.Elements.take.Goals as goal

pub returns-in-Storage-clause-ok : goal.returns-in-Storage-clause-ok
returns-in-Storage-clause-ok c = grind (arith, common_steps)

pub returns-in-Storage-clause-err : goal.returns-in-Storage-clause-err
returns-in-Storage-clause-err c = grind (arith, common_steps)

pub returns-in-ImportExport-clause-ok : goal.returns-in-ImportExport-clause-ok
returns-in-ImportExport-clause-ok c = grind (arith, common_steps)

pub returns-in-ImportExport-clause-err : goal.returns-in-ImportExport-clause-err
returns-in-ImportExport-clause-err c = grind (arith, common_steps)
