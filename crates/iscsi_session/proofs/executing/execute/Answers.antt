use Rattle.std.proofs.Common.{◌≡◌, ◌∙◌, ℕ, List, length, Option, Some, None, ap, refl, subst, sym}
use Rattle.scsi_nexus.specs.declared.nexus.Nexus.{Nexus}
use Rattle.judgement.specs.declared.reply.Reply.{Reply}
use Rattle.logical_unit.specs.Answers.{DoneValue}
use Rattle.iscsi_pdu.specs.declared.scsi_command.ScsiCommand.{ScsiCommand}
use Rattle.iscsi_tasks.specs.Runs.{Held, stepped}
use Rattle.iscsi_tasks.specs.Values.{TasksValue}
use Rattle.iscsi_answers.specs.declared.limits.TransferLimits.{TransferLimits}
use Rattle.iscsi_pdu.specs.declared.serial_number.SerialNumber.{SerialNumber}
use Rattle.tickets.specs.declared.ticket.ReplyTicket.{ReplyTicket}
use Rattle.iscsi_session.specs.Executing.{AnswersOrHolds, Replies, data_of, held_reply}
use Rattle.iscsi_session.proofs.executing.execute.Goals as goal

-- the unit that was found is that of the LUN
found_so : {S : Type 0} (notes : S → DoneValue → S → Type 0) (waits : DoneValue → Option ReplyTicket → Type 0) (n : Nexus) (s t : S)
    (unit found is : Option ℕ) (cdb bytes : List ℕ) (reply : Reply) (ticket : Option ReplyTicket)
    → found ≡ unit → found ≡ is → Replies notes waits n s is cdb bytes reply ticket t → Replies notes waits n s unit cdb bytes reply ticket t
found_so notes waits n s t unit found is cdb bytes reply ticket named same so =
    subst (λ (u : Option ℕ). Replies notes waits n s u cdb bytes reply ticket t) (sym same ∙ named) so

-- and what was found is what the reply waits for
waits_so : (waits : DoneValue → Option ReplyTicket → Type 0) (done : DoneValue) (found is : Option ReplyTicket) → found ≡ is
    → waits done found → waits done is
waits_so waits done found is same so = subst (λ (o : Option ReplyTicket). waits done o) same so

held_so : (k k' : TasksValue) (limits : TransferLimits) (stat_sn : SerialNumber) (c : ScsiCommand) (count handed_over : ℕ) (of reply : Reply)
    (ticket : ReplyTicket)
    → k' ≡ stepped k (Held (held_reply of count (length (data_of k limits stat_sn c count of.payload))) ticket) → of ≡ reply → count ≡ handed_over
    → AnswersOrHolds k c handed_over reply (Some ticket) (data_of k limits stat_sn c count of.payload) k'
held_so k k' limits stat_sn c count handed_over of reply ticket steps same counted =
    let data_ins = length (data_of k limits stat_sn c count of.payload) in (
      limits,
      stat_sn,
      ap (λ (i : ℕ). data_of k limits stat_sn c i of.payload) counted
          ∙ ap (λ (r : Reply). data_of k limits stat_sn c handed_over r.payload) same,
      steps ∙ ap (λ (i : ℕ). stepped k (Held (held_reply of i data_ins) ticket)) counted
          ∙ ap (λ (r : Reply). stepped k (Held (held_reply r handed_over data_ins) ticket)) same,
    )

pub returns-in-Some-ticket_for-clause-executed : goal.returns-in-Some-ticket_for-clause-executed
returns-in-Some-ticket_for-clause-executed g c = (
  _,
  record {
    reply = c.submit-done.result.reply;
    ticket = Some c.in-Some-ticket_for.ticket;
    replied =
        found_so g.S.Service.notes g.S.KeepingService.waits _ _ _ _ _ _ _ _ _ _ c.unit_of.ensures c.in-Some.is (
          c.submit-done.result,
          (cc, cc, cc),
          c.submit-done.ensures.notes,
          refl,
          waits_so g.S.KeepingService.waits c.submit-done.result c.ticket_for.result _ c.in-Some-ticket_for.is c.ticket_for.ensures,
        );
    says =
        held_so c.args.connection.now.tasks _ c.args.connection.now.limits c.args.connection.now.stat_sn c.args.command.now c.handed_over.result _ _
        c.submit-done.result.reply _ c.hold_reply.ensures.tasks c.receipt.ensures.reply c.handed_over.ensures;
  },
  c.hold_reply.ensures.said,
)

pub returns-in-Some-clause-executed : goal.returns-in-Some-clause-executed
returns-in-Some-clause-executed g c = (
  _,
  record {
    reply = c.submit-done.result.reply;
    ticket = None;
    replied =
        found_so g.S.Service.notes g.S.KeepingService.waits _ _ _ _ _ _ _ _ _ _ c.unit_of.ensures c.in-Some.is (
          c.submit-done.result,
          (cc, cc, cc),
          c.submit-done.ensures.notes,
          refl,
          waits_so g.S.KeepingService.waits c.submit-done.result c.ticket_for.result _ c.in-None-ticket_for.is c.ticket_for.ensures,
        );
    says = (c.args.connection.now.limits, c.args.connection.now.stat_sn, c.answer_executed.ensures.tasks, cc);
  },
  c.answer_executed.ensures.answered,
)

pub returns-clause-executed : goal.returns-clause-executed
returns-clause-executed g c = (
  _,
  record {
    reply = c.absent-reply.result;
    ticket = None;
    replied =
        found_so g.S.Service.notes g.S.KeepingService.waits _ _ _ _ _ _ _ _ _ _ c.unit_of.ensures c.in-None.is
        (c.absent-reply.ensures, refl, refl);
    says = (c.args.connection.now.limits, c.args.connection.now.stat_sn, c.answer_executed-in-None.ensures.tasks, cc);
  },
  c.answer_executed-in-None.ensures.answered,
)
