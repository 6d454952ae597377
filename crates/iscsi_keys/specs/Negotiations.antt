-- A login's negotiation: each key that is offered is answered, and the parameters are what the answers agree.
use Rattle.std.specs.Prelude.{ℕ, Bool, true, false, List, [], ◌∷◌, find, replicate, slice_index_or, slice_set, Option, Some, None, Result, Ok, Err, if◌then◌else◌}
use Rattle.std.specs.Str.{bytes_eq}
use Rattle.iscsi_keys.specs.Keys.{key_name, key_place, all_keys}
use Rattle.iscsi_keys.specs.Numbers.{number_in}
use Rattle.iscsi_keys.specs.Answers.{answer_to}
use Rattle.iscsi_keys.specs.Parameters.{defaults, agreed}
use Rattle.iscsi_keys.specs.declared.key.Key.{Key}
use Rattle.iscsi_keys.specs.declared.key.Key.TheVariants as key
use Rattle.iscsi_keys.specs.declared.answer.KeyAnswer.{KeyAnswer}
use Rattle.iscsi_keys.specs.declared.answer.KeyAnswer.TheVariants as answer
use Rattle.iscsi_keys.specs.declared.answer.Terms.{Terms}
use Rattle.iscsi_keys.specs.declared.fault.NegotiationFault.{NegotiationFault}
use Rattle.iscsi_keys.specs.declared.fault.NegotiationFault.TheVariants.{KeyTwice, DigestNeeded, AuthenticationFailure, NeededKeyRejected}
use Rattle.iscsi_keys.specs.declared.negotiation.Negotiation.{Negotiation}

abbrev pub begun : Terms → Negotiation
begun terms = record { terms = terms; offered = replicate 24 false; parameters = defaults }

-- the keys that a login can't do without
abbrev pub refusal : Key → Option NegotiationFault
refusal key.InitiatorName = None
refusal key.InitiatorAlias = None
refusal key.TargetName = None
refusal key.SessionType = None
refusal key.AuthMethod = Some AuthenticationFailure
refusal key.HeaderDigest = Some DigestNeeded
refusal key.DataDigest = Some DigestNeeded
refusal key.MaxConnections = None
refusal key.InitialR2t = Some NeededKeyRejected
refusal key.ImmediateData = Some NeededKeyRejected
refusal key.MaxRecvDataSegmentLength = Some NeededKeyRejected
refusal key.MaxBurstLength = Some NeededKeyRejected
refusal key.FirstBurstLength = Some NeededKeyRejected
refusal key.DefaultTime2Wait = None
refusal key.DefaultTime2Retain = None
refusal key.MaxOutstandingR2t = None
refusal key.DataPduInOrder = None
refusal key.DataSequenceInOrder = None
refusal key.ErrorRecoveryLevel = None
refusal key.TaskReporting = None
refusal key.IfMarker = None
refusal key.OfMarker = None
refusal key.IfMarkInt = None
refusal key.OfMarkInt = None

abbrev pub refused : Option NegotiationFault → Result KeyAnswer NegotiationFault
refused None = Ok answer.Reject
refused (Some fault) = Err fault

abbrev pub judged : Key → KeyAnswer → Result KeyAnswer NegotiationFault
judged key answer.Reject = refused (refusal key)
judged key other = Ok other

-- whether the key was offered before
abbrev pub was_offered : Negotiation → Key → Bool
was_offered n key = slice_index_or n.offered (key_place key) false

abbrev pub answer_in : Negotiation → Key → (value : List ℕ) → KeyAnswer
answer_in n key value = answer_to n.terms n.parameters.max_burst_length key value

abbrev pub answered_known : Negotiation → Key → (value : List ℕ) → Result KeyAnswer NegotiationFault
answered_known n key value = if was_offered n key then Err KeyTwice else judged key (answer_in n key value)

abbrev pub negotiated_known : Negotiation → Key → (value : List ℕ) → Negotiation
negotiated_known n key value =
    if was_offered n key then n
    else record {
      terms = n.terms;
      offered = slice_set n.offered (key_place key) true;
      parameters = agreed n.parameters key (answer_in n key value) (number_in value);
    }

-- a key that the target doesn't know is not understood, and changes nothing
abbrev pub key_named : (name : List ℕ) → Option Key
key_named name = find (λ key. bytes_eq (key_name key) name) all_keys

abbrev pub answered_if_known : Negotiation → Option Key → (value : List ℕ) → Result KeyAnswer NegotiationFault
answered_if_known n None value = Ok answer.NotUnderstood
answered_if_known n (Some key) value = answered_known n key value

abbrev pub answered : Negotiation → (name value : List ℕ) → Result KeyAnswer NegotiationFault
answered n name value = answered_if_known n (key_named name) value

abbrev pub negotiated_if_known : Negotiation → Option Key → (value : List ℕ) → Negotiation
negotiated_if_known n None value = n
negotiated_if_known n (Some key) value = negotiated_known n key value

abbrev pub negotiated : Negotiation → (name value : List ℕ) → Negotiation
negotiated n name value = negotiated_if_known n (key_named name) value

-- a key that is offered with a value
pub record Offer : Type 0 where
  pub name : List ℕ
  pub value : List ℕ

-- one offer after the other
abbrev pub after : Negotiation → List Offer → Negotiation
after n [] = n
after n (o ∷ others) = after (negotiated n o.name o.value) others
