use Rattle.std.proofs.Common.{[], ◌+◌, Some, None, inl, sym, ap, ◌∙◌, refl, rules}
use Rattle.judgement.specs.declared.reply.Reply.{Reply}
use Rattle.logical_unit.specs.UnitView.{UnitWithRoom, last_number}
use Rattle.logical_unit.proofs.MoveBusy.{answered_lacks}
use Rattle.logical_unit.proofs.NumbersOf.{noted, answered_noted, ends_noted, joined, unmoved, drive_noted_more}
use Rattle.logical_unit.proofs.Outsiders.{never_left, one_unchanged}
use Rattle.logical_unit.proofs.moves.move_one_for.Goals as goal

pub returns-in-Answered-clause-busy : goal.returns-in-Answered-clause-busy
returns-in-Answered-clause-busy g c = λ busy.
    inl (answered_lacks c.args.changer.now c.begin.new.self c.args.received.now.nexus c.args.received.now.cdb c.args.received.now.bytes
    c.in-Answered.reply c.args.drive.now.unit.state.lun [] c.requires.named c.in-Answered.ensures
    (sym (ap (λ (r : Reply). r.status) c.of.ensures.reply) ∙ busy))

pub returns-in-Answered-clause-numbers : goal.returns-in-Answered-clause-numbers
returns-in-Answered-clause-numbers g c =
    unmoved _ (noted c.args.changer.now.unit.state.lun c.in-Answered.reply) _ c.args.drive.now.unit c.args.drive.now.unit
    (c.of.ensures.numbers ∙ ap (λ lun. noted lun c.in-Answered.reply) c.lun-lun.ensures)
    (answered_noted c.args.changer.now c.begin.new.self c.args.received.now.nexus c.args.received.now.cdb c.args.received.now.bytes
    c.in-Answered.reply c.in-Answered.ensures) refl

pub returns-in-Ok-clause-numbers : goal.returns-in-Ok-clause-numbers
returns-in-Ok-clause-numbers g c =
    let same = ap (λ (x : UnitWithRoom). last_number x.unit) c.carry_one.ensures.changer ∙ ap last_number c.in-Left.ensures.unit in
    joined _ _ _ _ _ c.with_more.ensures.numbers
    (c.of-in-Ok.ensures.numbers ∙ ap (λ lun. noted lun c.finish-reply.result) c.lun-lun.ensures ∙ ends_noted c.args.changer.now.unit
    c.carry_one.new.changer c.finish-reply.new.changer c.args.received.now.nexus c.in-Left.act c.in-Left.decision None
    c.finish-reply.result same c.finish-reply.ensures)
    (drive_noted_more c.args.drive.now.unit c.carry_one.new.drive.unit _ _ _ c.lun-drive_lun.ensures c.last-last.ensures
    (c.in-Ok.ensures.last ∙ ap (λ n. last_number c.args.drive.now.unit + n) (sym c.records.ensures)))

pub returns-in-Err-clause-numbers : goal.returns-in-Err-clause-numbers
returns-in-Err-clause-numbers g c =
    let same = ap (λ (x : UnitWithRoom). last_number x.unit) c.carry_one.ensures.changer ∙ ap last_number c.in-Left.ensures.unit in
    unmoved _ (noted c.args.changer.now.unit.state.lun c.finish-reply-in-Err.result) _ c.args.drive.now.unit c.carry_one.new.drive.unit
    (c.of-in-Err.ensures.numbers ∙ ap (λ lun. noted lun c.finish-reply-in-Err.result) c.lun-lun.ensures)
    (ends_noted c.args.changer.now.unit c.carry_one.new.changer c.finish-reply-in-Err.new.changer c.args.received.now.nexus c.in-Left.act
    c.in-Left.decision (Some c.in-Err.stop) c.finish-reply-in-Err.result same c.finish-reply-in-Err.ensures)
    (ap last_number c.in-Err.ensures.same.1)

-- nothing is carried for a sender that may change nothing here
pub returns-in-Ok-clause-outsider : goal.returns-in-Ok-clause-outsider
returns-in-Ok-clause-outsider g c closed = absurd (never_left c.args.changer.now.unit c.args.received.now.nexus c.args.received.now.cdb
    c.args.received.now.bytes c.args.drive.now.unit.state.lun [] c.requires.named closed c.in-Left.ensures.left.left)

pub returns-in-Ok-clause-stays : goal.returns-in-Ok-clause-stays
returns-in-Ok-clause-stays g c closed = absurd (never_left c.args.changer.now.unit c.args.received.now.nexus c.args.received.now.cdb
    c.args.received.now.bytes c.args.drive.now.unit.state.lun [] c.requires.named closed c.in-Left.ensures.left.left)

pub returns-in-Answered-clause-units : goal.returns-in-Answered-clause-units
returns-in-Answered-clause-units g c = search rules fits 100

pub returns-in-Answered-clause-outsider : goal.returns-in-Answered-clause-outsider
returns-in-Answered-clause-outsider g c closed =
    (one_unchanged _ c.args.drive.now.unit _ c.args.drive.now.unit c.args.received.now.nexus c.args.received.now.cdb
    c.args.received.now.bytes _ c.args.drive.now.unit.state.lun c.requires.named (returns-in-Answered-clause-units g c) closed).0
