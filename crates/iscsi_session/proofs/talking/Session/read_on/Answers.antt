use Rattle.std.proofs.Common.{◌∙◌, ◌++◌, ap, inr}
use Rattle.iscsi_answers.specs.Single.{ping}
use Rattle.iscsi_answers.specs.Written.{bytes_of}
use Rattle.iscsi_session.proofs.Acted.{said_one}
use Rattle.iscsi_session.proofs.talking.Session.read_on.Goals as goal

pub returns-in_ok-write_ping-in-Err-clause-pings : goal.returns-in_ok-write_ping-in-Err-clause-pings
returns-in_ok-write_ping-in-Err-clause-pings g c =
    let out = c.args.self.now.connection.out.items in
    inr (
      c.args.self.now.connection.stat_sn,
      said_one _ _ _ (c.in_ok-write_ping-in-Err.ensures ∙ ap (λ n. out ++ bytes_of (ping n 0)) c.numbers-numbers.ensures),
    )
