use Rattle.std.proofs.Common.{◌≡◌, ◌++◌}
use Rattle.status_reader.specs.Summaries.{elements_of_type}
use Rattle.status_reader.proofs.elements.add_elements.Given as goal

abbrev pub invariant-numbers : goal.invariant-numbers
invariant-numbers l = l.list.items ≡ l.initial.list.items ++ elements_of_type l.elements l.element_type l.number
