use Rattle.iscsi_pdu.proofs.RequestsAgain.{initiator_again}
use Rattle.iscsi_pdu.proofs.ResponsesAgain.{target_again}
use Rattle.iscsi_pdu.proofs.laws.headers_read_back.Goals as goal

pub returns-clause-initiator : goal.returns-clause-initiator
returns-clause-initiator c p words count fits = initiator_again p words count fits

pub returns-clause-target : goal.returns-clause-target
returns-clause-target c p words count fits = target_again p words count fits
