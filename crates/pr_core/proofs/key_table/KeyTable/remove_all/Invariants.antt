use Rattle.std.proofs.Common.{◌≡◌, take}
use Rattle.pr_core.specs.Table.{remove_all}
use Rattle.pr_core.proofs.key_table.KeyTable.remove_all.Given as goal

abbrev pub invariant-loop-nexus : goal.invariant-loop-nexus
invariant-loop-nexus l = l.self ≡ remove_all l.initial.self (take l.nexus-index l.nexuses)
