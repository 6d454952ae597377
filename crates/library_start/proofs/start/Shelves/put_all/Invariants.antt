use Rattle.library_start.specs.Starting.{AreShelved}
use Rattle.library_start.proofs.start.Shelves.put_all.Given as goal

-- those that the loop has passed are in their elements
abbrev pub invariant-volumes : goal.invariant-volumes
invariant-volumes l = AreShelved l.initial.self l.yielded l.self
