use Rattle.std.proofs.Common.{◌≡◌, ◌∷◌, ◌++◌, ◌/◌, ◌%◌}
use Rattle.std.specs.Prelude.{replicate}
use Rattle.judgement.specs.UnitData.{luns_below}
use Rattle.judgement.proofs.unit_data.luns.Given as goal

abbrev pub invariant-loop-lun : goal.invariant-loop-lun
invariant-loop-lun l = l.data.items ≡ 0 ∷ 0 ∷ (l.length / 256) ∷ (l.length % 256) ∷ (replicate 4 0 ++ luns_below l.lun)
