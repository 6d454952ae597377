-- The keys of a text, offered one after another until one ends the login.
use Rattle.std.specs.Prelude.{ℕ, ◌+◌, zero, suc, List, length, Result, Ok, Err}
use Rattle.iscsi_pdu.specs.declared.login_status.LoginStatus.{LoginStatus}
use Rattle.iscsi_pdu.specs.declared.login_status.LoginStatus.TheVariants as status
use Rattle.iscsi_keys.specs.Texts.{ItemValue, End, Pair, Invalid, first_item}
use Rattle.iscsi_keys.specs.Negotiations.{answered, negotiated}
use Rattle.iscsi_keys.specs.declared.answer.KeyAnswer.{KeyAnswer}
use Rattle.iscsi_keys.specs.declared.fault.NegotiationFault.{NegotiationFault}
use Rattle.iscsi_keys.specs.declared.fault.NegotiationFault.TheVariants.{KeyTwice, DigestNeeded, AuthenticationFailure, NeededKeyRejected}
use Rattle.iscsi_keys.specs.declared.negotiation.Negotiation.{Negotiation}

abbrev pub fault_status : NegotiationFault → LoginStatus
fault_status KeyTwice = status.InitiatorError
fault_status DigestNeeded = status.InitiatorError
fault_status NeededKeyRejected = status.InitiatorError
fault_status AuthenticationFailure = status.AuthenticationFailure

abbrev pub unless_ended : Result KeyAnswer NegotiationFault → Result Negotiation LoginStatus → Result Negotiation LoginStatus
unless_ended (Ok answer) others = others
unless_ended (Err fault) others = Err (fault_status fault)

abbrev pub negotiated_at : (behind : Negotiation → List ℕ → Result Negotiation LoginStatus) → Negotiation → ItemValue → Result Negotiation LoginStatus
negotiated_at behind n End = Ok n
negotiated_at behind n (Invalid fault) = Err status.InitiatorError
negotiated_at behind n (Pair name value rest) = unless_ended (answered n name value) (behind (negotiated n name value) rest)

abbrev pub negotiated_within : ℕ → Negotiation → (text : List ℕ) → Result Negotiation LoginStatus
negotiated_within zero n text = Err status.InitiatorError
negotiated_within (suc items) n text = negotiated_at (negotiated_within items) n (first_item text)

-- each item has some bytes, so a text has no more items than bytes; one more finds its end
abbrev pub negotiated_by : Negotiation → (text : List ℕ) → Result Negotiation LoginStatus
negotiated_by n text = negotiated_within (length text + 1) n text
