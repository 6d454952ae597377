use Rattle.std.proofs.Common.{◌≡◌, ◌++◌, take, string_bytes}
use Rattle.std.specs.List.{flat_map}
use Rattle.library_status.specs.Json.{after_comma}
use Rattle.library_status.proofs.json.write_list.Given as goal

abbrev pub invariant-loop-item : goal.invariant-loop-item
invariant-loop-item g l = string_bytes l.text ≡ string_bytes l.initial.text ++ flat_map (after_comma g.T.Listed.json) (take l.item-index l.rest)
