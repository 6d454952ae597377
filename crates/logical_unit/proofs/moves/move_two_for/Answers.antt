use Rattle.std.proofs.Common.{[], ◌∷◌, Some, None, inl, sym, ap, ◌∙◌, refl, rules}
use Rattle.judgement.specs.declared.reply.Reply.{Reply}
use Rattle.logical_unit.specs.UnitView.{UnitWithRoom, last_number}
use Rattle.logical_unit.proofs.MoveBusy.{answered_lacks}
use Rattle.logical_unit.proofs.NumbersOf.{noted, answered_noted, ends_noted, joined_two, unmoved_two, drive_noted}
use Rattle.logical_unit.specs.Move.{TwoDrives}
use Rattle.logical_unit.proofs.Outsiders.{never_left, two_unchanged}
use Rattle.logical_unit.proofs.moves.move_two_for.Goals as goal

pub returns-in-Answered-clause-busy : goal.returns-in-Answered-clause-busy
returns-in-Answered-clause-busy g c = λ busy.
    inl (answered_lacks c.args.changer.now c.begin.new.self c.args.received.now.nexus c.args.received.now.cdb c.args.received.now.bytes
    c.in-Answered.reply c.args.low.now.unit.state.lun (c.args.high.now.unit.state.lun ∷ []) c.requires.named c.in-Answered.ensures
    (sym (ap (λ (r : Reply). r.status) c.of.ensures.reply) ∙ busy))

pub returns-in-Answered-clause-numbers : goal.returns-in-Answered-clause-numbers
returns-in-Answered-clause-numbers g c =
    unmoved_two _ (noted c.args.changer.now.unit.state.lun c.in-Answered.reply) _ c.args.low.now.unit c.args.low.now.unit
    c.args.high.now.unit c.args.high.now.unit
    (c.of.ensures.numbers ∙ ap (λ lun. noted lun c.in-Answered.reply) c.lun-lun.ensures)
    (answered_noted c.args.changer.now c.begin.new.self c.args.received.now.nexus c.args.received.now.cdb c.args.received.now.bytes
    c.in-Answered.reply c.in-Answered.ensures) refl refl

pub returns-in-Ok-clause-numbers : goal.returns-in-Ok-clause-numbers
returns-in-Ok-clause-numbers g c =
    let same = ap (λ (x : UnitWithRoom). last_number x.unit) c.carry_two.ensures.changer ∙ ap last_number c.in-Left.ensures.unit in
    joined_two _ _ _ _ _ _ _ _ c.with-receipt.ensures.numbers c.with.ensures.numbers
    (c.of-in-Ok.ensures.numbers ∙ ap (λ lun. noted lun c.finish-reply.result) c.lun-lun.ensures ∙ ends_noted c.args.changer.now.unit
    c.carry_two.new.changer c.finish-reply.new.changer c.args.received.now.nexus c.in-Left.act c.in-Left.decision None
    c.finish-reply.result same c.finish-reply.ensures)
    (drive_noted c.args.low.now.unit c.carry_two.new.low.unit _ _ c.lun-low_lun.ensures c.in-Ok.ensures.low.1 c.in-Ok.ensures.last_low)
    (drive_noted c.args.high.now.unit c.carry_two.new.high.unit _ _ c.lun-high_lun.ensures c.in-Ok.ensures.high.1 c.in-Ok.ensures.last_high)

pub returns-in-Err-clause-numbers : goal.returns-in-Err-clause-numbers
returns-in-Err-clause-numbers g c =
    let same = ap (λ (x : UnitWithRoom). last_number x.unit) c.carry_two.ensures.changer ∙ ap last_number c.in-Left.ensures.unit in
    unmoved_two _ (noted c.args.changer.now.unit.state.lun c.finish-reply-in-Err.result) _ c.args.low.now.unit c.carry_two.new.low.unit
    c.args.high.now.unit c.carry_two.new.high.unit
    (c.of-in-Err.ensures.numbers ∙ ap (λ lun. noted lun c.finish-reply-in-Err.result) c.lun-lun.ensures)
    (ends_noted c.args.changer.now.unit c.carry_two.new.changer c.finish-reply-in-Err.new.changer c.args.received.now.nexus c.in-Left.act
    c.in-Left.decision (Some c.in-Err.stop) c.finish-reply-in-Err.result same c.finish-reply-in-Err.ensures)
    (ap last_number c.in-Err.ensures.same.1) (ap last_number c.in-Err.ensures.same.2)

-- nothing is carried for a sender that may change nothing here
pub returns-in-Ok-clause-outsider : goal.returns-in-Ok-clause-outsider
returns-in-Ok-clause-outsider g c closed = absurd (never_left c.args.changer.now.unit c.args.received.now.nexus c.args.received.now.cdb
    c.args.received.now.bytes c.args.low.now.unit.state.lun (c.args.high.now.unit.state.lun ∷ []) c.requires.named closed
    c.in-Left.ensures.left.left)

pub returns-in-Err-clause-outsider : goal.returns-in-Err-clause-outsider
returns-in-Err-clause-outsider g c closed = absurd (never_left c.args.changer.now.unit c.args.received.now.nexus c.args.received.now.cdb
    c.args.received.now.bytes c.args.low.now.unit.state.lun (c.args.high.now.unit.state.lun ∷ []) c.requires.named closed
    c.in-Left.ensures.left.left)

pub returns-in-Ok-clause-stay : goal.returns-in-Ok-clause-stay
returns-in-Ok-clause-stay g c closed = absurd (never_left c.args.changer.now.unit c.args.received.now.nexus c.args.received.now.cdb
    c.args.received.now.bytes c.args.low.now.unit.state.lun (c.args.high.now.unit.state.lun ∷ []) c.requires.named closed
    c.in-Left.ensures.left.left)

pub returns-in-Answered-clause-units : goal.returns-in-Answered-clause-units
returns-in-Answered-clause-units g c = search rules fits 100

pub returns-in-Answered-clause-outsider : goal.returns-in-Answered-clause-outsider
returns-in-Answered-clause-outsider g c closed =
    let drives : TwoDrives = record { low = c.args.low.now.unit; high = c.args.high.now.unit } in
    (two_unchanged _ _ drives drives c.args.received.now.nexus c.args.received.now.cdb c.args.received.now.bytes _
    c.args.low.now.unit.state.lun c.args.high.now.unit.state.lun c.requires.named (returns-in-Answered-clause-units g c) closed).0
