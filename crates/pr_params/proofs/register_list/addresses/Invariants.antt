use Rattle.std.proofs.Common.{◌≡◌, ◌≤◌, ◌+◌, ◌*◌, ◌/◌, ◌%◌, ◌++◌, length, map}
use Rattle.std.specs.List.{list_all}
use Rattle.scsi_nexus.specs.Limits.{list_limit}
use Rattle.scsi_nexus.specs.TransportId.{sas_address}
use Rattle.pr_params.specs.Lists.{ids, is_sas}
use Rattle.pr_params.proofs.register_list.addresses.Given as goal

-- what was read, and what is left
abbrev pub invariant-loop-rest : goal.invariant-loop-rest
invariant-loop-rest l = record {
  whole : length l.rest % 24 ≡ 0;
  room : 24 * length l.targets.items + length l.rest ≤ 24 * list_limit;
  all : list_all is_sas (ids (length l.bytes / 24) l.bytes) ≡ list_all is_sas (ids (length l.rest / 24) l.rest);
  read : map sas_address (ids (length l.bytes / 24) l.bytes) ≡ l.targets.items ++ map sas_address (ids (length l.rest / 24) l.rest);
}

abbrev pub decreases-loop-rest : goal.decreases-loop-rest
decreases-loop-rest l = length l.rest
