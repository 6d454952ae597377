use Rattle.std.proofs.Common.{◌∙◌}
use Rattle.iscsi_session.proofs.Acted.{plain_one}
use Rattle.iscsi_session.proofs.requests.take_logout.Goals as goal

pub returns-clause-said : goal.returns-clause-said
returns-clause-said c = plain_one _ _ _ (c.has_answered.ensures.out ∙ c.in_ok-write_logout_response.ensures) tt
