use Rattle.std.proofs.Common.{◌+◌, ◌-◌, ◌≡◌, ◌<◌, ℕ, length, sym, subst, arith}
use Rattle.scsi_nexus.specs.Place.{IsAbove}
use Rattle.scsi_nexus.proofs.PlaceLemmas.{above_more}
use Rattle.scsi_nexus.proofs.place.is_above.Goals as goal

pub returns-in-Less : goal.returns-in-Less
returns-in-Less g c =
    let within : c.args.place - 1 < length c.args.entries.now = omega (arith, c.if-place-eq0.false, c.if-place-entries.false) in
    let above = above_more c.args.nexus c.args.entries.now (c.args.place - 1) c.index-entries-place.result c.requires within (sym c.in-Less.ensures) in
    let same : c.args.place - 1 + 1 ≡ c.args.place = omega (arith, c.if-place-eq0.false) in
    λ true. (omega (arith, c.if-place-entries.false), subst (IsAbove c.args.nexus c.args.entries.now) same above)
