use Rattle.std.proofs.Common.{rules}
use Rattle.session.proofs.serving.refuse_login.Goals as goal

pub returns-in_ok-write_reply-in-AlreadyConnected-clause-said : goal.returns-in_ok-write_reply-in-AlreadyConnected-clause-said
returns-in_ok-write_reply-in-AlreadyConnected-clause-said g c = search rules fits 100
