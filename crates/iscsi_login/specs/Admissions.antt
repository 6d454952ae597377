-- Who is let in, to which target and for what, by the texts of a login.
use Rattle.std.specs.Prelude.{ℕ, Bool, true, false, ◌&&◌, ◌==◌, List, slice_set, Option, Some, None, Result, Ok, Err, if◌then◌else◌}
use Rattle.iscsi_keys.specs.IscsiNames.{is_same_name}
use Rattle.iscsi_pdu.specs.declared.login_status.LoginStatus.{LoginStatus}
use Rattle.iscsi_pdu.specs.declared.login_status.LoginStatus.TheVariants as status
use Rattle.iscsi_keys.specs.Negotiations.{begun}
use Rattle.iscsi_keys.specs.Keys.{key_place}
use Rattle.iscsi_keys.specs.declared.key.Key.{Key}
use Rattle.iscsi_keys.specs.declared.key.Key.TheVariants as key
use Rattle.iscsi_keys.specs.declared.answer.Terms.{Terms}
use Rattle.iscsi_keys.specs.declared.negotiation.Negotiation.{Negotiation}
use Rattle.iscsi_chap.specs.Accesses.{admitted}
use Rattle.iscsi_chap.specs.Authentications.{method_of}
use Rattle.iscsi_login.specs.Names.{declared, session_type_in}
use Rattle.iscsi_login.specs.Offers.{negotiated_by}
use Rattle.iscsi_chap.specs.declared.access.Admission.{Admission}
use Rattle.iscsi_chap.specs.declared.access.Admission.TheVariants.{Listed, Other}
use Rattle.iscsi_chap.specs.declared.session_type.SessionType.{SessionType}
use Rattle.iscsi_chap.specs.declared.session_type.SessionType.TheVariants.{Normal, Discovery}
use Rattle.iscsi_login.specs.declared.target.LoginTarget.{LoginTarget}
use Rattle.iscsi_login.specs.declared.admitted.Admitted.{Admitted}

abbrev pub is_discovery : SessionType → Bool
is_discovery Normal = false
is_discovery Discovery = true

abbrev pub terms_of : LoginTarget → SessionType → Terms
terms_of target session_type = record { discovery = is_discovery session_type; method = method_of target.authentication; profile = target.profile }

-- a normal session is one of a target by name; that of discovery needs none (RFC 7143, "TargetName")
abbrev pub target_fault : LoginTarget → SessionType → (wanted : Option (List ℕ)) → Option LoginStatus
target_fault target Normal None = Some status.MissingParameter
target_fault target Discovery None = None
target_fault target session_type (Some name) = if is_same_name name target.name.items then None else Some status.NotFound

abbrev pub unless_target_fault : LoginTarget → SessionType → Admission → Option LoginStatus → Result Admitted LoginStatus
unless_target_fault target session_type admission (Some fault) = Err fault
unless_target_fault target session_type admission None =
    Ok (record { admission = admission; session_type = session_type; negotiation = begun (terms_of target session_type) })

abbrev pub entry_as : LoginTarget → SessionType → (wanted : Option (List ℕ)) → Option Admission → Result Admitted LoginStatus
entry_as target session_type wanted None = Err status.AuthorizationFailure
entry_as target session_type wanted (Some admission) =
    unless_target_fault target session_type admission (target_fault target session_type wanted)

abbrev pub entry_for : LoginTarget → SessionType → (wanted initiator : Option (List ℕ)) → Result Admitted LoginStatus
entry_for target session_type wanted None = Err status.MissingParameter
entry_for target session_type wanted (Some name) = entry_as target session_type wanted (admitted target.access name)

abbrev pub entry_if : LoginTarget → Option SessionType → (wanted initiator : Option (List ℕ)) → Result Admitted LoginStatus
entry_if target None wanted initiator = Err status.SessionTypeNotSupported
entry_if target (Some session_type) wanted initiator = entry_for target session_type wanted initiator

-- by the first text of a login
abbrev pub entry_of : LoginTarget → (text : List ℕ) → Result Admitted LoginStatus
entry_of target text = entry_if target (session_type_in (declared text key.SessionType)) (declared text key.TargetName) (declared text key.InitiatorName)

abbrev pub with_negotiation : Admitted → Result Negotiation LoginStatus → Result Admitted LoginStatus
with_negotiation a (Err fault) = Err fault
with_negotiation a (Ok n) = Ok (record { admission = a.admission; session_type = a.session_type; negotiation = n })

abbrev pub offered_by : Admitted → (text : List ℕ) → Result Admitted LoginStatus
offered_by a text = with_negotiation a (negotiated_by a.negotiation text)

abbrev pub offered_if : Result Admitted LoginStatus → (text : List ℕ) → Result Admitted LoginStatus
offered_if (Err fault) text = Err fault
offered_if (Ok a) text = offered_by a text

-- the session is that of the first text (RFC 7143, "InitiatorName", "TargetName", "SessionType"); initiators say the same again
abbrev pub is_admitted_again : Option Admission → Admission → Bool
is_admitted_again (Some (Listed sas)) (Listed own) = sas == own
is_admitted_again (Some (Other sas)) (Other own) = sas == own
is_admitted_again _ _ = false

abbrev pub is_initiator_again : LoginTarget → Admission → (again : Option (List ℕ)) → Bool
is_initiator_again target admission None = true
is_initiator_again target admission (Some name) = is_admitted_again (admitted target.access name) admission

abbrev pub is_target_again : LoginTarget → (again : Option (List ℕ)) → Bool
is_target_again target None = true
is_target_again target (Some name) = is_same_name name target.name.items

abbrev pub is_same_type : Option SessionType → SessionType → Bool
is_same_type (Some Normal) Normal = true
is_same_type (Some Discovery) Discovery = true
is_same_type _ _ = false

abbrev pub is_type_again : SessionType → (again : Option (List ℕ)) → Bool
is_type_again session_type None = true
is_type_again session_type (Some value) = is_same_type (session_type_in (Some value)) session_type

abbrev pub says_the_same : LoginTarget → Admitted → (text : List ℕ) → Bool
says_the_same target a text =
    is_initiator_again target a.admission (declared text key.InitiatorName)
    && is_target_again target (declared text key.TargetName)
    && is_type_again a.session_type (declared text key.SessionType)

abbrev pub without : List Bool → Key → List Bool
without offered key = slice_set offered (key_place key) false

abbrev pub names_free : Admitted → Admitted
names_free a = record {
  admission = a.admission;
  session_type = a.session_type;
  negotiation = record {
    terms = a.negotiation.terms;
    offered = without (without (without (without a.negotiation.offered key.InitiatorName) key.InitiatorAlias) key.TargetName) key.SessionType;
    parameters = a.negotiation.parameters;
  };
}

abbrev pub admitted_by : Option Admitted → LoginTarget → (text : List ℕ) → Result Admitted LoginStatus
admitted_by None target text = offered_if (entry_of target text) text
admitted_by (Some a) target text = if says_the_same target a text then offered_by (names_free a) text else Err status.InitiatorError
