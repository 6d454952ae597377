use Rattle.std.proofs.Common.{arith}
use Rattle.std.proofs.lemmas.Grind.{common_steps}
use Rattle.element_map.proofs.elements.Elements.put.Goals as goal

pub returns-in-Storage-clause-fault : goal.returns-in-Storage-clause-fault
returns-in-Storage-clause-fault c = grind (arith, common_steps)

pub returns-in-Storage-clause-err : goal.returns-in-Storage-clause-err
returns-in-Storage-clause-err c = grind (arith, common_steps)

pub returns-in-ImportExport-clause-fault : goal.returns-in-ImportExport-clause-fault
returns-in-ImportExport-clause-fault c = grind (arith, common_steps)

pub returns-in-ImportExport-clause-err : goal.returns-in-ImportExport-clause-err
returns-in-ImportExport-clause-err c = grind (arith, common_steps)
