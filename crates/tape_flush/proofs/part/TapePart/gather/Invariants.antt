use Rattle.std.proofs.Common.{◌≡◌, ◌-◌, take, drop}
use Rattle.tape_image.specs.Images.{image_bytes}
use Rattle.tape_flush.specs.Images.{ends_from}
use Rattle.tape_flush.proofs.Pieces.{last_from}
use Rattle.tape_flush.proofs.part.TapePart.gather.Given as goal

-- the part has the objects so far, and the last of them ends where the next begins
abbrev pub invariant-objects : goal.invariant-objects
invariant-objects l = record {
  bytes : l.self.bytes ≡ image_bytes (take (l.at - l.from) (drop l.from l.tape.objects));
  ends : l.self.ends ≡ ends_from l.offset (take (l.at - l.from) (drop l.from l.tape.objects));
  last : l.last ≡ last_from l.offset (take (l.at - l.from) (drop l.from l.tape.objects));
}
