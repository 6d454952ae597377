use Rattle.std.proofs.Common.{◌≡◌, ◌+◌, ◌-◌, ◌*◌, ◌++◌, vec_len}
use Rattle.std.specs.List.{flat_map}
use Rattle.element_map.specs.Runs.{code_of, in_run}
use Rattle.element_sources.specs.HostStatus.{host_descriptor, host_descriptor_length}
use Rattle.element_sources.proofs.status.put_descriptors.Given as goal

-- the descriptors so far
abbrev pub invariant-loop-at : goal.invariant-loop-at
invariant-loop-at l = record {
  items : l.bytes.items ≡ l.fn.bytes.items
      ++ flat_map (host_descriptor l.sources l.library l.request.volume_tags l.request.device_identifiers) (in_run l.elements l.element_type l.fn.run.from (l.at - l.fn.run.from));
  length : vec_len l.bytes ≡ vec_len l.fn.bytes + (l.at - l.fn.run.from) * host_descriptor_length l.request.volume_tags l.request.device_identifiers (code_of l.element_type);
}
