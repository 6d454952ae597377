-- A login's exchange from its first request on, and what its texts show of the initiator.
use Rattle.std.specs.Prelude.{◌≡◌, ℕ, List, [], ◌∷◌, ◌++◌, Option, Some, None, Any, if◌then◌else◌}
use Rattle.iscsi_keys.specs.declared.key.Key.TheVariants as key
use Rattle.iscsi_chap.specs.Algorithms.{chosen_algorithm}
use Rattle.iscsi_chap.specs.Binaries.{binary_value}
use Rattle.iscsi_chap.specs.Digests.{chap_digest}
use Rattle.iscsi_chap.specs.Entries.{entry_among}
use Rattle.iscsi_chap.specs.declared.algorithm.ChapAlgorithm.{ChapAlgorithm}
use Rattle.iscsi_chap.specs.declared.algorithm.ChapDigests.{ChapDigests}
use Rattle.iscsi_chap.specs.declared.authentication.ChapAccess.{ChapAccess}
use Rattle.iscsi_chap.specs.declared.entry.ChapEntry.{ChapEntry}
use Rattle.iscsi_chap.specs.Accesses.{admitted}
use Rattle.iscsi_login.specs.Admissions.{target_fault}
use Rattle.iscsi_login.specs.ChapKeys.{algorithm_key, name_key, response_key}
use Rattle.iscsi_login.specs.Exchanges.{ExchangeValue, taken}
use Rattle.iscsi_login.specs.Names.{declared, declared_as, session_type_in}
use Rattle.iscsi_login.specs.Runs.{Coming}
use Rattle.iscsi_chap.specs.declared.access.Admission.{Admission}
use Rattle.iscsi_chap.specs.declared.challenge.Challenge.{Challenge}
use Rattle.iscsi_chap.specs.declared.session_type.SessionType.{SessionType}
use Rattle.iscsi_chap.specs.declared.authentication.Authentication.{Authentication}
use Rattle.iscsi_chap.specs.declared.authentication.Authentication.TheVariants as authentication
use Rattle.iscsi_login.specs.declared.target.LoginTarget.{LoginTarget}

-- each request with its data segment
abbrev pub exchanged : LoginTarget → ExchangeValue → List Coming → ExchangeValue
exchanged target e [] = e
exchanged target e (c ∷ others) = exchanged target (taken e target c.request c.text) others

-- a text is what the data segments of requests with C and of the next one without it are together
abbrev pub texts_from : (gathered : List ℕ) → List Coming → List (List ℕ)
texts_from gathered [] = []
texts_from gathered (c ∷ others) =
    if c.request.continues then texts_from (gathered ++ c.text) others else (gathered ++ c.text) ∷ texts_from [] others

abbrev pub texts_of : List Coming → List (List ℕ)
texts_of comings = texts_from [] comings

-- the text is of the initiator of this name, which is let in as this, and wants such a session of the target
pub record IsEntryOf (target : LoginTarget) (text name : List ℕ) (a : Admission) (s : SessionType) : Type 0 where
  pub named : declared text key.InitiatorName ≡ Some name
  pub let_in : admitted target.access name ≡ Some a
  pub of_type : session_type_in (declared text key.SessionType) ≡ Some s
  pub at_target : target_fault target s (declared text key.TargetName) ≡ None

-- the first offer of algorithms among texts
abbrev pub unless_offered : (list later : Option (List ℕ)) → Option (List ℕ)
unless_offered (Some list) later = Some list
unless_offered None later = later

abbrev pub first_offer : List (List ℕ) → Option (List ℕ)
first_offer [] = None
first_offer (text ∷ texts) = unless_offered (declared_as text algorithm_key) (first_offer texts)

-- the algorithm that is asked for: the one that the target takes of the first offer, whatever is offered later
pub record IsAskedFor (digests : ChapDigests) (texts : List (List ℕ)) (algorithm : ChapAlgorithm) : Type 0 where
  pub list : List ℕ
  pub offered : first_offer texts ≡ Some list
  pub chosen : chosen_algorithm digests list ≡ Some algorithm

-- the text carries the digest that the host's secret at this place makes of the challenge, by this algorithm
pub record IsProof (entries : List ChapEntry) (challenge : Option Challenge) (algorithm : ChapAlgorithm) (host : List ℕ) (place : ℕ) (text : List ℕ) : Type 0
  where
    pub asked : Challenge
    pub user : List ℕ
    pub entry : ChapEntry
    pub response : List ℕ
    pub is_asked : challenge ≡ Some asked
    pub as_user : declared_as text name_key ≡ Some user
    pub has_entry : entry_among entries host user ≡ Some (place, entry)
    pub responds : declared_as text response_key ≡ Some response
    pub is_digest : binary_value response ≡ Some (chap_digest algorithm asked.identifier entry.own.secret.items asked.bytes)

-- one of the texts does, by the algorithm that was asked for
pub record IsProved (access : ChapAccess) (challenge : Option Challenge) (host : List ℕ) (place : ℕ) (texts : List (List ℕ)) : Type 0 where
  pub algorithm : ChapAlgorithm
  pub asked_for : IsAskedFor access.digests texts algorithm
  pub shown : Any (IsProof access.secrets.entries.items challenge algorithm host place) texts

-- where CHAP is asked for, by the entry at the place that was proved
abbrev pub IsAuthenticated : Authentication → Option Challenge → (host : List ℕ) → (proved : Option ℕ) → (texts : List (List ℕ)) → Type 0
IsAuthenticated authentication.None challenge host None texts = Unit {0}
IsAuthenticated authentication.None challenge host (Some place) texts = ⊥
IsAuthenticated (authentication.Chap access) challenge host None texts = ⊥
IsAuthenticated (authentication.Chap access) challenge host (Some place) texts = IsProved access challenge host place texts

-- one of the texts is of an initiator that is let in as this, and, where it has to, one authenticates that initiator by what it has
-- proved
pub record IsLetIn (target : LoginTarget) (challenge : Option Challenge) (texts : List (List ℕ)) (a : Admission) (s : SessionType) (proved : Option ℕ) : Type 0 where
  pub name : List ℕ
  pub entered : Any (λ text. IsEntryOf target text name a s) texts
  pub authenticated : IsAuthenticated target.authentication challenge name proved texts
