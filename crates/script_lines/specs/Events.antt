-- Events that lie in pieces.
use Rattle.std.specs.Prelude.{List}
use Rattle.std.specs.Global.{Vec}
use Rattle.std.specs.List.{flat_map}
use Rattle.target_core.specs.declared.event.Event.{Event}

-- the events of pieces, one piece behind the other
abbrev pub joined : List (Vec Event) → List Event
joined pieces = flat_map (λ (piece : Vec Event). piece.items) pieces
