use Rattle.std.proofs.Common.{◌<◌, length, sym, arith}
use Rattle.scsi_nexus.specs.Place.{IsBelow}
use Rattle.scsi_nexus.proofs.PlaceLemmas.{below_more, found_at}
use Rattle.scsi_nexus.proofs.place.place_near.Goals as goal
use Rattle.scsi_nexus.proofs.place.place_near.Goals.{then-guess-entries+in-Greater, else-guess-entries}

pub returns-in-Equal : goal.returns-in-Equal
returns-in-Equal g c =
    let within : c.args.guess < length c.args.entries.now = omega (arith, c.if-guess-entries.true) in
    found_at c.args.nexus c.args.entries.now c.args.guess c.index-entries-guess.result c.requires within (sym c.in-Equal.ensures)

pub returns-then-is_above : goal.returns-then-is_above
returns-then-is_above g c =
    let above = c.is_above.ensures c.if-is_above.true in
    let below : IsBelow c.args.nexus c.args.entries.now c.args.guess = elim c.if-guess-entries.branch [
      | then-guess-entries+in-Greater w ↦
          below_more c.args.nexus c.args.entries.now c.args.guess w.index-entries-guess.result c.requires (omega (arith, w.if-guess-entries.true)) (sym w.in-Greater.ensures)
      | else-guess-entries w ↦ λ j d from within. absurd (omega (arith, w.if-guess-entries.false, from, within))
    ] in
    (above.0, above.1, below)
