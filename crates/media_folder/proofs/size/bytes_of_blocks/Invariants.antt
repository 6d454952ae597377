use Rattle.std.proofs.Common.{◌≡◌, take}
use Rattle.media_folder.specs.Sizes.{held_in}
use Rattle.media_folder.proofs.size.bytes_of_blocks.Given as goal

-- those of the objects so far
abbrev pub invariant-sizes : goal.invariant-sizes
invariant-sizes l = l.held ≡ held_in (take l.object-index l.objects)
