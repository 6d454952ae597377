use Rattle.iscsi_session.proofs.LoggedIn.{request_begins, request_taken}
use Rattle.iscsi_session.proofs.login.take_pdu.Goals as goal

pub returns-in-LoginRequest-clause-taken : goal.returns-in-LoginRequest-clause-taken
returns-in-LoginRequest-clause-taken c = request_taken c.take.result c.args.target.now c.args.exchange.now _ _ _ _ c.in-LoginRequest.is c.take.ensures.state

pub returns-in-LoginRequest-clause-begins : goal.returns-in-LoginRequest-clause-begins
returns-in-LoginRequest-clause-begins c = request_begins c.take.result c.args.target.now c.args.exchange.now _ _ _ c.take.ensures.progress c.take.ensures.state
