use Rattle.std.proofs.Common.{inl, rules}
use Rattle.session.proofs.Called.{one_called}
use Rattle.session.proofs.answering.answer_command.Goals as goal

pub returns-clause-calls : goal.returns-clause-calls
returns-clause-calls g c =
    one_called g.S.Service.notes c.args.nexus c.args.service.now c.submit-done.new.self _ (inl c.submit-done.ensures.answer.0)
    c.submit-done.ensures.notes

pub returns-clause-said : goal.returns-clause-said
returns-clause-said g c = search rules fits 100

pub returns-then-bytes-most_reply_data-clause-calls : goal.returns-then-bytes-most_reply_data-clause-calls
returns-then-bytes-most_reply_data-clause-calls g c =
    one_called g.S.Service.notes c.args.nexus c.args.service.now c.submit-done.new.self _ (inl c.submit-done.ensures.answer.0)
    c.submit-done.ensures.notes

pub returns-in_err-write_reply-clause-calls : goal.returns-in_err-write_reply-clause-calls
returns-in_err-write_reply-clause-calls g c =
    one_called g.S.Service.notes c.args.nexus c.args.service.now c.submit-done.new.self _ (inl c.submit-done.ensures.answer.0)
    c.submit-done.ensures.notes
