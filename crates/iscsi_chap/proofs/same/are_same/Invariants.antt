use Rattle.std.proofs.Common.{◌≡◌, ◌&&◌, drop}
use Rattle.std.specs.Str.{bytes_eq}
use Rattle.iscsi_chap.proofs.same.are_same.Given as goal

-- they are the same where none so far differs, nor any that is left
abbrev pub invariant-bytes : goal.invariant-bytes
invariant-bytes l = (l.same && bytes_eq (drop l.place l.left) (drop l.place l.right)) ≡ bytes_eq l.left l.right
