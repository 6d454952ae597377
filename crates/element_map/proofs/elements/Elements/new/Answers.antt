use Rattle.std.proofs.Common.{rules}
use Rattle.element_map.proofs.elements.Elements.new.Goals as goal

pub returns : goal.returns
returns c = search rules fits 100
