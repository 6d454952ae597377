use Rattle.std.proofs.Common.{◌≡◌, ◌++◌, take}
use Rattle.std.specs.List.{flat_map}
use Rattle.std.specs.Prelude.{string_bytes}
use Rattle.library_status.specs.Picture.{element_picture}
use Rattle.library_status.proofs.rows.write_elements.Given as goal

abbrev pub invariant-loop-element : goal.invariant-loop-element
invariant-loop-element l = string_bytes l.text ≡ string_bytes l.initial.text ++ flat_map element_picture (take l.element-index l.elements)
