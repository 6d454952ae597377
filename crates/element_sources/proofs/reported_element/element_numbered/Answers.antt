use Rattle.std.proofs.Common.{arith}
use Rattle.std.proofs.lemmas.Grind.{common_steps}
use Rattle.element_sources.proofs.Places.{reads_numbered}
use Rattle.element_sources.proofs.reported_element.element_numbered.Goals as goal

pub returns-clause-element : goal.returns-clause-element
returns-clause-element c =
    let read = reads_numbered c.args.elements.now c.args.element_type c.args.at c.requires.limits c.requires.inside in
    grind (arith, common_steps, read)
