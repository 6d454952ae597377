use Rattle.std.proofs.Common.{◌≡◌, ◌*◌, ℕ, zero, suc, List, ◌∷◌, replicate, length, refl, ap, arith}
use Rattle.std.proofs.lemmas.List.{length-append}
use Rattle.judgement.specs.UnitData.{luns_below}
use Rattle.judgement.proofs.unit_data.luns.Goals as goal

-- eight bytes a unit
length-luns : (n : ℕ) → length (luns_below n) ≡ n * 8
length-luns zero = refl
length-luns (suc n) = let e = length-append (luns_below n) (0 ∷ n ∷ replicate 6 0) in let rest = length-luns n in omega (arith, e, rest)

pub of-requires : goal.of-requires
of-requires c =
    let list = length-luns c.loop-lun.lun in
    let all = ap (λ (bytes : List ℕ). length bytes) c.loop-lun.invariant in
    omega (arith, list, all, c.loop-lun.auto.lun-end)
