use Rattle.std.proofs.Common.{take}
use Rattle.std.specs.List.{All}
use Rattle.permission_chart.specs.Names.{IsNameOf}
use Rattle.permission_chart.proofs.classes.class_named.Given as goal

-- no class so far has the name
abbrev pub invariant-loop-class : goal.invariant-loop-class
invariant-loop-class l = All (λ c. ¬ IsNameOf l.name c) (take l.class-index l.class-items)
