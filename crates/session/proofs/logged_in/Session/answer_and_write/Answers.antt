use Rattle.std.proofs.Common.{◌++◌}
use Rattle.session.proofs.Answered.{appends_more}
use Rattle.session.proofs.logged_in.Session.answer_and_write.Goals as goal

pub returns-clause-leaves : goal.returns-clause-leaves
returns-clause-leaves g c leaves =
    let all = c.answer_all-came.ensures.leaves leaves in
    let out = c.answer_all-came.new.self.out.items in
    record {
      said = all.gone ++ out;
      appended =
          appends_more _ (g.W.Write.contents c.answer_all-came.new.writer) _ all.gone out all.appended c.in_ok-flush.ensures.written;
      answered = all.answered;
    }

pub returns-clause-goes_on : goal.returns-clause-goes_on
returns-clause-goes_on g c goes_on =
    let all = c.answer_all-came.ensures.goes_on goes_on in
    let dry = c.answer_all-came.ensures.dry goes_on in
    let out = c.answer_all-came.new.self.out.items in
    record {
      said = all.gone ++ out;
      appended =
          appends_more _ (g.W.Write.contents c.answer_all-came.new.writer) _ all.gone out all.appended c.in_ok-flush.ensures.written;
      answered = all.answered;
      partial = dry.0;
      short = dry.1;
    }
