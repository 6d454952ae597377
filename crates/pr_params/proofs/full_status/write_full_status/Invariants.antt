use Rattle.std.proofs.Common.{◌≡◌, ◌++◌, ◌*◌, length, take}
use Rattle.std.specs.List.{flat_map}
use Rattle.pr_params.specs.Status.{header, full_status_of}
use Rattle.pr_params.proofs.full_status.write_full_status.Given as goal

-- the descriptors so far
abbrev pub invariant-loop-nexus : goal.invariant-loop-nexus
invariant-loop-nexus l = l.data.items ≡ header l.generation (48 * length l.pairs) ++ flat_map (full_status_of l.reservation) (take l.nexus-index l.first)
