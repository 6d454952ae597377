use Rattle.std.specs.Prelude.{ℕ, Bool, List, take, drop, reverse, if◌then◌else◌}
use Rattle.tape_medium.specs.Object.{Object}
use Rattle.tape_medium.specs.Space.{Way}
use Rattle.tape_medium.specs.declared.space.Stop.{Stop}
use Rattle.tape_medium.specs.declared.space.Stop.TheVariants.{AtEnd, AtStart}
use Rattle.tape_medium.specs.declared.space.SpaceCode.{SpaceCode}
use Rattle.tape_medium.specs.declared.space.SpaceCode.TheVariants.{Blocks, Marks}
use Rattle.tape_medium.specs.declared.passage.Passage.{Passage}

-- the objects in the way from a position
abbrev pub in_way : List Object → ℕ → Bool → List Object
in_way os from back = if back then reverse (take from os) else drop from os

abbrev pub edge_of : Bool → Stop
edge_of back = if back then AtStart else AtEnd

abbrev pub code_of : Bool → SpaceCode
code_of marks = if marks then Marks else Blocks

abbrev pub way_of : Passage → Way
way_of p = record { counted = p.counted; over = p.over; stop = p.stop }
