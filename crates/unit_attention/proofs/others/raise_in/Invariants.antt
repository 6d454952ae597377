use Rattle.std.proofs.Common.{◌≡◌, ◌+◌, ◌-◌, T, drop, length}
use Rattle.std.specs.FinMap.{is_sorted}
use Rattle.scsi_nexus.specs.Order.{nexus_cmp}
use Rattle.unit_attention.proofs.WalkLemmas.{ArePast, others_told}
use Rattle.unit_attention.proofs.others.raise_in.Given as goal

-- what is left to raise, raised now, gives what all gives
abbrev pub invariant-walk : goal.invariant-walk
invariant-walk g l = record {
  told : others_told l.sender l.named l.kind l.slots (drop l.at l.entries) ≡ others_told l.sender l.named l.kind l.initial.slots l.entries;
  sorted : T (is_sorted nexus_cmp l.slots);
  past : ArePast l.entries l.at l.slots l.place;
}

abbrev pub decreases-walk : goal.decreases-walk
decreases-walk g l = (length l.entries - l.at) + (length l.slots - l.place)
