use Rattle.std.proofs.Common.{ap, ◌∙◌, List, map}
use Rattle.std.specs.Prelude.{IsTrue, ◌↔◌}
use Rattle.kept_unit.specs.declared.seat_notes.SeatNotes.{SeatNotes}
use Rattle.kept_unit.specs.Agreeing.{Agrees}
use Rattle.kept_unit.specs.SeatNotes.{notes_value}
use Rattle.lun_router.specs.Seats.{notes_at}
use Rattle.lun_router.proofs.SameNotes.{alike, if_ok}
use Rattle.lun_router.proofs.closing.agree_at.Goals as goal

pub returns : goal.returns
returns g c =
    let same = ap (λ (l : List SeatNotes). map notes_value l) c.as_slice.ensures.value ∙ c.in_ok-all.ensures in
    if_ok c.agree.result _ _ (λ b (h : IsTrue b ↔ Agrees notes_value g.row.LUN g.L.UnitLedger.since c.args.kept.now.unit.base.last c.args.kept.now.unit.records c.args.kept.now.handed_over c.as_slice.result.now) yes.
    alike notes_value (notes_at g.row.LUN) g.row.LUN g.L.UnitLedger.since c.args.kept.now.unit.base.last c.args.kept.now.unit.records c.args.kept.now.handed_over c.as_slice.result.now c.args.seats.now same (h.0 yes)) c.agree.ensures
