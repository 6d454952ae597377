use Rattle.std.proofs.Common.{◌≡◌, ◌++◌, ◌*◌, length, take}
use Rattle.std.specs.List.{flat_map}
use Rattle.byteorder.specs.Endian.{big_bytes}
use Rattle.pr_params.specs.Status.{header}
use Rattle.pr_params.proofs.status_data.write_keys.Given as goal

-- the keys so far
abbrev pub invariant-loop-key : goal.invariant-loop-key
invariant-loop-key l = l.data.items ≡ header l.generation (8 * length l.pairs) ++ flat_map (λ e. big_bytes 8 e.1) (take l.key-index l.first)
