-- How many seats there are at doors that have as many workers each.
use Rattle.std.proofs.Common.{ℕ, ◌*◌, ◌<◌, ◌≤◌, arith}
use Rattle.std.proofs.lemmas.Nat.{mul-le, mul-lt}

pub some_seats : (workers doors : ℕ) → 0 < workers → 0 < doors → 0 < workers * doors
some_seats workers doors some_workers some_doors = mul-lt 0 0 workers doors some_workers some_doors

pub few_seats : (workers doors : ℕ) → workers < 511 → doors ≤ 5 → workers * doors ≤ 2550
few_seats workers doors few_workers few_doors = mul-le workers doors 510 5 (omega arith) few_doors
