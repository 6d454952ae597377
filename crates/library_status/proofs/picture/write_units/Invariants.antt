use Rattle.std.proofs.Common.{◌≡◌, ◌++◌, take}
use Rattle.std.specs.List.{flat_map}
use Rattle.std.specs.Prelude.{string_bytes}
use Rattle.library_status.specs.Picture.{unit_picture}
use Rattle.library_status.proofs.picture.write_units.Given as goal

abbrev pub invariant-loop-unit : goal.invariant-loop-unit
invariant-loop-unit l = string_bytes l.text ≡ string_bytes l.initial.text ++ flat_map unit_picture (take l.unit-index l.units)
