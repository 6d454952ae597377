use Rattle.std.proofs.Common.{◌≡◌, ◌≤◌, ◌+◌, ◌*◌, [], ◌∷◌, ◌++◌, length, take}
use Rattle.std.specs.Prelude.{if◌then◌else◌}
use Rattle.std.specs.List.{flat_map}
use Rattle.pr_core.specs.Targets.{at_all_ports, at_ports}
use Rattle.pr_core.proofs.targets.list_targets.Given as goal

-- the sender, and the addresses so far
abbrev pub invariant-loop-sas : goal.invariant-loop-sas
invariant-loop-sas l =
    (l.list.items ≡ l.sender ∷ (if l.params.all_ports then at_all_ports l.sender.sas else []) ++ flat_map (at_ports l.sender l.params) (take l.sas-index l.sas-items))
    × (length l.list.items ≤ 5 + 4 * l.sas-index)
