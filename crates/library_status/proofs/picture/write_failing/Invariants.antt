use Rattle.std.proofs.Common.{◌≡◌, ◌++◌, take}
use Rattle.std.specs.List.{flat_map}
use Rattle.std.specs.Prelude.{string_bytes}
use Rattle.library_status.specs.Picture.{failing_line}
use Rattle.library_status.proofs.picture.write_failing.Given as goal

abbrev pub invariant-loop-tag : goal.invariant-loop-tag
invariant-loop-tag l = string_bytes l.text ≡ string_bytes l.initial.text ++ flat_map failing_line (take l.tag-index l.tags)
