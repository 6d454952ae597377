use Rattle.std.proofs.Common.{◌≡◌, ◌+◌, drop}
use Rattle.std.specs.List.{prefix_len}
use Rattle.lun_router.specs.Seats.{is_drained, drained_count}
use Rattle.lun_router.proofs.settling.drained_count.Given as goal

abbrev pub invariant-loop-entry : goal.invariant-loop-entry
invariant-loop-entry l = record {
  at : l.count ≡ l.entry-index;
  left : drained_count l.drained l.entries ≡ l.count + prefix_len (is_drained l.drained) (drop l.entry-index l.entries);
}
