use Rattle.std.proofs.Common.{◌≡◌, drop}
use Rattle.iscsi_chap.specs.Accesses.{admitted_among}
use Rattle.iscsi_chap.proofs.access.Access.admit_by_list.Given as goal

-- none so far has the name
abbrev pub invariant-loop-host : goal.invariant-loop-host
invariant-loop-host l =
    admitted_among l.self.any_host (drop l.host-index l.self.hosts.items) l.name ≡ admitted_among l.self.any_host l.self.hosts.items l.name
