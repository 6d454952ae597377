use Rattle.tape_medium.specs.Along.{edge_of, in_way}
use Rattle.tape_medium.proofs.WayLemmas.{Told}
use Rattle.tape_medium.proofs.passage.pass_objects.Given as goal

abbrev pub invariant-loop-over : goal.invariant-loop-over
invariant-loop-over l = Told l.marks (edge_of l.back) (in_way l.store l.from l.back) l.todo l.counted l.over
