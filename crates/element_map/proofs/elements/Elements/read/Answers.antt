use Rattle.std.proofs.Common.{rules}
use Rattle.element_map.proofs.elements.Elements.read.Goals as goal

pub returns-in-Transport : goal.returns-in-Transport
returns-in-Transport c = search rules fits 100
