use Rattle.std.proofs.Common.{rules}
use Rattle.element_map.proofs.elements.Elements.move_refusal.Goals as goal

pub returns-in-Some-None-Some : goal.returns-in-Some-None-Some
returns-in-Some-None-Some c = search rules fits 100

pub returns-in-Some-Some-Some-Some : goal.returns-in-Some-Some-Some-Some
returns-in-Some-Some-Some-Some c = search rules fits 100

pub returns-in-Some-Some-Some-None : goal.returns-in-Some-Some-Some-None
returns-in-Some-Some-Some-None c = search rules fits 100
