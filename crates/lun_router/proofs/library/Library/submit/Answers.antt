use Rattle.std.proofs.Common.{List, [], ◌∷◌, ◌++◌, ap, ◌∙◌, rules}
use Rattle.scsi_cdb.specs.declared.profile.CommandSet.{CommandSet}
use Rattle.scsi_cdb.specs.declared.profile.Profile.{Profile}
use Rattle.scsi_cdb.specs.Kinds.{commands_at}
use Rattle.judgement.specs.Commands.{act_of, act_of_decoded}
use Rattle.judgement.specs.Received.{ReceivedValue, command_in}
use Rattle.logical_unit.specs.ActKinds.{act_kind_of, act_kind_if}
use Rattle.logical_unit.specs.declared.entry.Entry.{Entry}
use Rattle.lun_router.specs.Settling.{ranges_of}
use Rattle.lun_router.proofs.Rising.{counted_more}
use Rattle.lun_router.proofs.library.Library.submit.Goals as goal

pub returns-clause-answer : goal.returns-clause-answer
returns-clause-answer g c = search rules fits 100

pub returns-clause-act : goal.returns-clause-act
returns-clause-act g c =
    c.step-done.ensures.act ∙ ap (λ (r : ReceivedValue). act_kind_if c.step-done.result.numbers
    (act_kind_of (act_of_decoded (command_in r)))) c.new-received.ensures
    ∙ ap (λ (k : CommandSet). act_kind_if c.step-done.result.numbers (act_kind_of (act_of k c.args.cdb.now c.args.bytes.now)))
    (c.commands_at.ensures ∙ ap (λ (p : Profile). commands_at p c.args.lun) c.self.invariant.2)

pub invariant_of-seat-2 : goal.invariant_of-seat-2
invariant_of-seat-2 g c =
    let more = c.push_reserved.ensures ∙ ap (λ (l : List Entry). l ++ c.entry.result ∷ []) c.make_room.ensures.same in
    counted_more (ranges_of c.seat.inside.ranges) c.seat.inside.entries.entries c.push_reserved.new.self.entries c.entry.result
    c.step-done.result c.seat.inside.parts c.step-done.new.parts more c.entry.ensures c.seat.invariant c.step-done.ensures.rise
