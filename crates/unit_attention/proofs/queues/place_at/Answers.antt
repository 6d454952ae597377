use Rattle.std.proofs.Common.{◌≡◌, ◌<◌, true, length, get_or, Ordering, Less, Equal, Greater, refl, arith, sym, ◌∙◌}
use Rattle.std.specs.Ordering.{is_eq}
use Rattle.scsi_nexus.specs.Order.{nexus_cmp}
use Rattle.scsi_nexus.proofs.NexusLaws.{eq_by_cmp-nexus}
use Rattle.scsi_nexus.proofs.PlaceLemmas.{found_at}
use Rattle.unit_attention.proofs.queues.place_at.Goals as goal

is_equal : (o : Ordering) → is_eq o ≡ true → o ≡ Equal
is_equal Less h = cc
is_equal Equal h = refl
is_equal Greater h = cc

pub returns-then-eq : goal.returns-then-eq
returns-then-eq c =
    let within : c.args.guess < length c.args.slots.now = omega (arith, c.if-guess-slots.true) in
    let entry = get_or c.args.slots.now c.args.guess c.index-slots-guess.result in
    let same = eq_by_cmp-nexus entry.0 c.args.nexus ∙ sym c.eq.ensures ∙ c.if-eq.true in
    found_at c.args.nexus c.args.slots.now c.args.guess c.index-slots-guess.result c.requires within (is_equal (nexus_cmp entry.0 c.args.nexus) same)
