use Rattle.std.proofs.Common.{List, [], ◌∷◌, ◌++◌, ap, ◌∙◌}
use Rattle.logical_unit.specs.declared.entry.Entry.{Entry}
use Rattle.lun_router.specs.Settling.{ranges_of}
use Rattle.lun_router.proofs.Rising.{counted_more}
use Rattle.lun_router.proofs.library.Library.lose.Goals as goal

pub invariant_of-seat-2 : goal.invariant_of-seat-2
invariant_of-seat-2 g c =
    let more = c.push_reserved.ensures ∙ ap (λ (l : List Entry). l ++ c.entry.result ∷ []) c.make_room.ensures.same in
    counted_more (ranges_of c.seat.inside.ranges) c.seat.inside.entries.entries c.push_reserved.new.self.entries c.entry.result c.lose-done.result c.seat.inside.parts c.lose-done.new.parts more c.entry.ensures c.seat.invariant c.lose-done.ensures.rise
