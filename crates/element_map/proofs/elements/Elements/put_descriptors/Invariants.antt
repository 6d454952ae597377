use Rattle.std.proofs.Common.{◌≡◌, ◌≤◌, ◌+◌, ◌-◌, ◌*◌, ◌++◌, vec_len, vec_capacity}
use Rattle.tape_medium.specs.ElementStatus.{descriptor_length}
use Rattle.element_map.specs.Runs.{in_run}
use Rattle.element_map.specs.Pages.{descriptors}
use Rattle.element_map.proofs.elements.Elements.put_descriptors.Given as goal

-- the descriptors so far
abbrev pub invariant-loop-at : goal.invariant-loop-at
invariant-loop-at l = record {
  items : l.bytes.items ≡ l.fn.bytes.items ++ descriptors l.voltag (in_run l.self l.element_type l.fn.run.from (l.at - l.fn.run.from));
  length : vec_len l.bytes ≡ vec_len l.fn.bytes + (l.at - l.fn.run.from) * descriptor_length l.voltag;
  capacity : vec_capacity l.fn.bytes ≤ vec_capacity l.bytes;
}
