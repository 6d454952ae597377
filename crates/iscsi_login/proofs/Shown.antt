-- What the texts of an exchange have shown of its initiator.
use Rattle.std.proofs.Common.{◌≡◌, ℕ, Bool, true, false, cond, List, Option, Some, None, Result, Ok, Err, refl, sym, ap, subst}
use Rattle.std.specs.Prelude.{Any}
use Rattle.std.proofs.lemmas.Slice.Eq.{bytes_eq-Decides}
use Rattle.iscsi_pdu.specs.declared.login_request.LoginRequest.{LoginRequest}
use Rattle.iscsi_pdu.specs.declared.login_status.LoginStatus.{LoginStatus}
use Rattle.iscsi_pdu.specs.declared.login_status.LoginStatus.TheVariants as status
use Rattle.iscsi_chap.specs.Binaries.{binary_value}
use Rattle.iscsi_chap.specs.Digests.{chap_digest}
use Rattle.iscsi_chap.specs.Algorithms.{chosen_algorithm}
use Rattle.iscsi_chap.specs.Entries.{entry_among}
use Rattle.iscsi_chap.specs.declared.algorithm.ChapAlgorithm.{ChapAlgorithm}
use Rattle.iscsi_chap.specs.declared.entry.ChapEntry.{ChapEntry}
use Rattle.iscsi_chap.specs.declared.entry.Credentials.{Credentials}
use Rattle.iscsi_chap.specs.declared.authentication.ChapAccess.{ChapAccess}
use Rattle.iscsi_chap.specs.Authentications.{is_passed}
use Rattle.iscsi_login.specs.Authentications.{is_agreed, may_go_on, shown_by, after_authentication}
use Rattle.iscsi_login.specs.ChapKeys.{algorithm_key, identifier_key, challenge_key, name_key, response_key}
use Rattle.iscsi_chap.specs.Responses.{is_digest, is_response}
use Rattle.iscsi_login.specs.Chaps.{Verdict, silent, unproven, phase_after, says, says_challenge, says_response, says_any, challenged, asked_for, asked, identifier_in, is_own, response_items, shown_as, shown, proven, answered_by, answered, chap_turn}
use Rattle.iscsi_login.specs.Exchanges.{ExchangeValue}
use Rattle.iscsi_login.specs.ExchangeRuns.{first_offer, IsAskedFor, IsEntryOf, IsProof, IsProved, IsAuthenticated}
use Rattle.iscsi_login.specs.Names.{declared_as}
use Rattle.iscsi_login.specs.Turns.{phase_or, judgement_at}
use Rattle.iscsi_chap.specs.declared.access.Admission.{Admission}
use Rattle.iscsi_login.specs.declared.admitted.Admitted.{Admitted}
use Rattle.iscsi_chap.specs.declared.challenge.Challenge.{Challenge}
use Rattle.iscsi_chap.specs.declared.phase.ChapPhase.{ChapPhase}
use Rattle.iscsi_chap.specs.declared.phase.ChapPhase.TheVariants as phase
use Rattle.iscsi_login.specs.declared.chap.ChapState.{ChapState}
use Rattle.iscsi_chap.specs.declared.session_type.SessionType.{SessionType}
use Rattle.iscsi_chap.specs.declared.authentication.Authentication.{Authentication}
use Rattle.iscsi_chap.specs.declared.authentication.Authentication.TheVariants as authentication
use Rattle.iscsi_login.specs.declared.target.LoginTarget.{LoginTarget}
use Rattle.iscsi_login.specs.declared.login.Login.{Login}
use Rattle.iscsi_login.specs.declared.login.Login.TheVariants.{Open, Ended}
use Rattle.iscsi_login.specs.declared.login.LoginEnd.TheVariants as ends
use Rattle.iscsi_login.proofs.Reached.{IsSoundLogin}

-- ---- what is known of an exchange so far, where these are the texts

abbrev pub IsText : (texts : List (List ℕ)) → (text : List ℕ) → Type 0
IsText texts text = Any (λ (t : List ℕ). t ≡ text) texts

abbrev pub Shown : LoginTarget → (texts : List (List ℕ)) → (name : List ℕ) → Admission → SessionType → Type 0
Shown target texts name a s = Any (λ (t : List ℕ). IsEntryOf target t name a s) texts

abbrev pub PhaseShown : Authentication → Option Challenge → (texts : List (List ℕ)) → (name : List ℕ) → ChapPhase → Type 0
PhaseShown authentication.None challenge texts name p = Unit {0}
PhaseShown (authentication.Chap access) challenge texts name phase.Unasked = Unit {0}
PhaseShown (authentication.Chap access) challenge texts name (phase.Challenged algorithm) = IsAskedFor access.digests texts algorithm
PhaseShown (authentication.Chap access) challenge texts name (phase.Passed place) = IsProved access challenge name place texts

-- where no algorithm was asked for yet, what the text offers is the first offer
abbrev pub OffersFirst : Authentication → ChapPhase → (texts : List (List ℕ)) → (text : List ℕ) → Type 0
OffersFirst authentication.None p texts text = Unit {0}
OffersFirst (authentication.Chap access) phase.Unasked texts text = (list : List ℕ) → declared_as text algorithm_key ≡ Some list → first_offer texts ≡ Some list
OffersFirst (authentication.Chap access) (phase.Challenged algorithm) texts text = Unit {0}
OffersFirst (authentication.Chap access) (phase.Passed place) texts text = Unit {0}

abbrev pub IsHeard : Authentication → ChapPhase → (texts : List (List ℕ)) → (text : List ℕ) → Type 0
IsHeard au p texts text = IsText texts text × OffersFirst au p texts text

abbrev pub EndShown : Authentication → Option Challenge → (texts : List (List ℕ)) → (name : List ℕ) → Login → Type 0
EndShown au challenge texts name (Open l) = Unit {0}
EndShown au challenge texts name (Ended (ends.Refused s)) = Unit {0}
EndShown au challenge texts name (Ended (ends.FullFeature f)) = IsAuthenticated au challenge name f.proved texts

-- nobody has passed who wasn't let in
abbrev pub FreshIn : Option Admitted → ChapPhase → Type 0
FreshIn None p = is_passed p ≡ false
FreshIn (Some a) p = Unit {0}

abbrev pub Fresh : Login → ChapPhase → Type 0
Fresh (Open l) p = FreshIn l.admitted p
Fresh (Ended end) p = Unit {0}

pub record LoginShown (target : LoginTarget) (challenge : Option Challenge) (texts : List (List ℕ)) (name : List ℕ) (p : ChapPhase) (l : Login) : Type 0 where
  pub sound : IsSoundLogin (Shown target texts name) l
  pub end : EndShown target.authentication challenge texts name l
  pub fresh : Fresh l p

pub record ExchangeShown (target : LoginTarget) (challenge : Option Challenge) (texts : List (List ℕ)) (e : ExchangeValue) : Type 0 where
  pub login : LoginShown target challenge texts e.name e.chap.phase e.login
  pub phase : PhaseShown target.authentication challenge texts e.name e.chap.phase
  pub same : e.chap.challenge ≡ challenge

-- ---- choices

pub either_of : {A : Type 0} (P : A → Type 0) (b : Bool) (x y : A) → P x → P y → P (cond b x y)
either_of P true x y h i = h
either_of P false x y h i = i

pub either_if : {A : Type 0} (P : A → Type 0) (b : Bool) (x y : A) → (b ≡ true → P x) → P y → P (cond b x y)
either_if P true x y h i = h refl
either_if P false x y h i = i

pub at_true : {A : Type 0} (P : A → Type 0) (b : Bool) (x y : A) → b ≡ true → P x → P (cond b x y)
at_true P b x y is h = subst (λ (c : Bool). P (cond c x y)) (sym is) h

pub at_false : {A : Type 0} (P : A → Type 0) (b : Bool) (x y : A) → b ≡ false → P y → P (cond b x y)
at_false P b x y is h = subst (λ (c : Bool). P (cond c x y)) (sym is) h

-- ---- CHAP

abbrev pub phase_in : ChapPhase → Verdict → ChapPhase
phase_in old v = phase_or old (phase_after v)

pub unasked_shown : (au : Authentication) (challenge : Option Challenge) (texts : List (List ℕ)) (name : List ℕ) → PhaseShown au challenge texts name phase.Unasked
unasked_shown authentication.None challenge texts name = tt
unasked_shown (authentication.Chap access) challenge texts name = tt

-- where nobody has passed the name doesn't matter
pub open_phase : (au : Authentication) (challenge : Option Challenge) (texts : List (List ℕ)) (old name : List ℕ) (p : ChapPhase) → is_passed p ≡ false
    → PhaseShown au challenge texts old p → PhaseShown au challenge texts name p
open_phase authentication.None challenge texts old name p nobody h = tt
open_phase (authentication.Chap access) challenge texts old name phase.Unasked nobody h = tt
open_phase (authentication.Chap access) challenge texts old name (phase.Challenged algorithm) nobody h = h
open_phase (authentication.Chap access) challenge texts old name (phase.Passed place) nobody h = absurd cc

pub shown_as_passes : (P : ChapPhase → Type 0) (old : ChapPhase) (place : ℕ) (algorithm : ChapAlgorithm) (challenge : Challenge) (target : Option Credentials) (identifier : Option ℕ) (bytes : Option (List ℕ))
    → P old → P (phase.Passed place) → P (phase_in old (shown_as place algorithm challenge target identifier bytes))
shown_as_passes P old place algorithm challenge None identifier bytes h i = h
shown_as_passes P old place algorithm challenge (Some target) None bytes h i = h
shown_as_passes P old place algorithm challenge (Some target) (Some identifier) None h i = h
shown_as_passes P old place algorithm challenge (Some target) (Some identifier) (Some bytes) h i =
    either_of (λ (v : Verdict). P (phase_in old v)) (is_own challenge bytes)
    (Ok (record { phase = phase.Passed place; answer = response_items algorithm target identifier bytes })) unproven i h

-- who has proved the entry at a place passes by that place
pub shown_passes : (P : ChapPhase → Type 0) (old : ChapPhase) (place : ℕ) (algorithm : ChapAlgorithm) (challenge : Challenge) (target : Option Credentials) (identifier bytes : Option (List ℕ))
    → P old → P (phase.Passed place) → P (phase_in old (shown place algorithm challenge target identifier bytes))
shown_passes P old place algorithm challenge target None None h i = i
shown_passes P old place algorithm challenge target None (Some bytes) h i = h
shown_passes P old place algorithm challenge target (Some identifier) None h i = h
shown_passes P old place algorithm challenge target (Some identifier) (Some bytes) h i =
    shown_as_passes P old place algorithm challenge target (identifier_in identifier) (binary_value bytes) h i

pub challenged_shown : (access : ChapAccess) (challenge c : Option Challenge) (texts : List (List ℕ)) (name list : List ℕ) (o : Option ChapAlgorithm)
    → chosen_algorithm access.digests list ≡ o → first_offer texts ≡ Some list
    → PhaseShown (authentication.Chap access) challenge texts name (phase_in phase.Unasked (challenged c o))
challenged_shown access challenge c texts name list None is first = tt
challenged_shown access challenge None texts name list (Some algorithm) is first = tt
challenged_shown access challenge (Some asked) texts name list (Some algorithm) is first = record { list = list; offered = first; chosen = is }

pub asked_for_shown : (access : ChapAccess) (challenge c : Option Challenge) (texts : List (List ℕ)) (name : List ℕ) (agreed : Bool) (o : Option (List ℕ))
    → ((list : List ℕ) → o ≡ Some list → first_offer texts ≡ Some list)
    → PhaseShown (authentication.Chap access) challenge texts name (phase_in phase.Unasked (asked_for access.digests c agreed o))
asked_for_shown access challenge c texts name agreed None first = tt
asked_for_shown access challenge c texts name agreed (Some list) first =
    either_of (λ (v : Verdict). PhaseShown (authentication.Chap access) challenge texts name (phase_in phase.Unasked v)) agreed
    (challenged c (chosen_algorithm access.digests list)) unproven
    (challenged_shown access challenge c texts name list (chosen_algorithm access.digests list) refl (first list refl)) tt

-- an offer is the first
pub asked_shown : (access : ChapAccess) (challenge c : Option Challenge) (texts : List (List ℕ)) (name text : List ℕ) (agreed : Bool)
    → ((list : List ℕ) → declared_as text algorithm_key ≡ Some list → first_offer texts ≡ Some list)
    → PhaseShown (authentication.Chap access) challenge texts name (phase_in phase.Unasked (asked access.digests c agreed text))
asked_shown access challenge c texts name text agreed first =
    either_of (λ (v : Verdict). PhaseShown (authentication.Chap access) challenge texts name (phase_in phase.Unasked v)) (says_response text) unproven
    (asked_for access.digests c agreed (declared_as text algorithm_key)) tt
    (asked_for_shown access challenge c texts name agreed (declared_as text algorithm_key) first)

pub same_bytes : (o : Option (List ℕ)) (digest : List ℕ) → is_digest o digest ≡ true → o ≡ Some digest
same_bytes None digest h = absurd cc
same_bytes (Some bytes) digest h = ap (λ (xs : List ℕ). Some xs) ((bytes_eq-Decides bytes digest).0 h)

pub here_in : (P : List ℕ → Type 0) (texts : List (List ℕ)) (text : List ℕ) → IsText texts text → P text → Any P texts
here_in P texts text (k, x, lt, is, same) p = (k, x, lt, is, subst P (sym same) p)

pub proven_shown : (access : ChapAccess) (challenge : Option Challenge) (texts : List (List ℕ)) (name text : List ℕ) (algorithm : ChapAlgorithm) (asked : Challenge) (user response : List ℕ) (o : Option (ℕ × ChapEntry))
    → challenge ≡ Some asked → declared_as text name_key ≡ Some user → declared_as text response_key ≡ Some response → entry_among access.secrets.entries.items name user ≡ o → IsText texts text
    → IsAskedFor access.digests texts algorithm
    → PhaseShown (authentication.Chap access) challenge texts name (phase_in (phase.Challenged algorithm) (proven algorithm asked o response text))
proven_shown access challenge texts name text algorithm asked user response None c n r e t h = h
proven_shown access challenge texts name text algorithm asked user response (Some (place, entry)) c n r e t h =
    let passed : Verdict = shown place algorithm asked entry.target (declared_as text identifier_key) (declared_as text challenge_key) in
    either_if (λ (v : Verdict). PhaseShown (authentication.Chap access) challenge texts name (phase_in (phase.Challenged algorithm) v))
    (is_response algorithm asked entry.own.secret.items response) passed unproven
    (λ same. shown_passes (PhaseShown (authentication.Chap access) challenge texts name) (phase.Challenged algorithm) place algorithm asked entry.target
    (declared_as text identifier_key) (declared_as text challenge_key) h
    (record {
      algorithm = algorithm;
      asked_for = h;
      shown = here_in (IsProof access.secrets.entries.items challenge algorithm name place) texts text t
          (record {
            asked = asked;
            user = user;
            entry = entry;
            response = response;
            is_asked = c;
            as_user = n;
            has_entry = e;
            responds = r;
            is_digest = same_bytes (binary_value response) (chap_digest algorithm asked.identifier entry.own.secret.items asked.bytes) same;
          });
    }))
    h

pub answered_by_shown : (access : ChapAccess) (challenge : Option Challenge) (texts : List (List ℕ)) (name text : List ℕ) (algorithm : ChapAlgorithm) (asked : Challenge) (user response : Option (List ℕ))
    → challenge ≡ Some asked → declared_as text name_key ≡ user → declared_as text response_key ≡ response → IsText texts text
    → IsAskedFor access.digests texts algorithm
    → PhaseShown (authentication.Chap access) challenge texts name (phase_in (phase.Challenged algorithm) (answered_by access.secrets.entries.items name asked algorithm text user response))
answered_by_shown access challenge texts name text algorithm asked None None c n r t h =
    either_of (λ (v : Verdict). PhaseShown (authentication.Chap access) challenge texts name (phase_in (phase.Challenged algorithm) v)) (says_challenge text) unproven (silent (phase.Challenged algorithm)) h h
answered_by_shown access challenge texts name text algorithm asked (Some user) (Some response) c n r t h =
    proven_shown access challenge texts name text algorithm asked user response (entry_among access.secrets.entries.items name user) c n r refl t h
answered_by_shown access challenge texts name text algorithm asked None (Some response) c n r t h = h
answered_by_shown access challenge texts name text algorithm asked (Some user) None c n r t h = h

pub answered_shown : (access : ChapAccess) (challenge own : Option Challenge) (texts : List (List ℕ)) (name text : List ℕ) (algorithm : ChapAlgorithm) → own ≡ challenge → IsText texts text
    → IsAskedFor access.digests texts algorithm
    → PhaseShown (authentication.Chap access) challenge texts name (phase_in (phase.Challenged algorithm) (answered access.secrets.entries.items name own algorithm text))
answered_shown access challenge None texts name text algorithm same t h = h
answered_shown access challenge (Some asked) texts name text algorithm same t h =
    either_of (λ (v : Verdict). PhaseShown (authentication.Chap access) challenge texts name (phase_in (phase.Challenged algorithm) v)) (says text algorithm_key) (Err status.InitiatorError)
    (answered_by access.secrets.entries.items name asked algorithm text (declared_as text name_key) (declared_as text response_key)) h
    (answered_by_shown access challenge texts name text algorithm asked (declared_as text name_key) (declared_as text response_key) (sym same) refl refl t h)

pub turn_shown : (access : ChapAccess) (challenge own : Option Challenge) (texts : List (List ℕ)) (name text : List ℕ) (agreed : Bool) (old : ChapPhase) → own ≡ challenge
    → IsHeard (authentication.Chap access) old texts text
    → PhaseShown (authentication.Chap access) challenge texts name old → PhaseShown (authentication.Chap access) challenge texts name (phase_in old (chap_turn access name own agreed old text))
unfolding chap_turn
turn_shown access challenge own texts name text agreed phase.Unasked same t h =
    asked_shown access challenge own texts name text agreed t.1
turn_shown access challenge own texts name text agreed (phase.Challenged algorithm) same t h = answered_shown access challenge own texts name text algorithm same t.0 h
turn_shown access challenge own texts name text agreed (phase.Passed place) same t h =
    either_of (λ (v : Verdict). PhaseShown (authentication.Chap access) challenge texts name (phase_in (phase.Passed place) v)) (says_any text) (Err status.InitiatorError)
    (silent (phase.Passed place)) h h

pub by_request : (b : Bool) (access : ChapAccess) (challenge : Option Challenge) (texts : List (List ℕ)) (name text : List ℕ) (chap : ChapState) (agreed : Bool) → chap.challenge ≡ challenge
    → (b ≡ false → IsHeard (authentication.Chap access) chap.phase texts text) → PhaseShown (authentication.Chap access) challenge texts name chap.phase
    → PhaseShown (authentication.Chap access) challenge texts name (phase_in chap.phase (cond b (silent chap.phase) (chap_turn access name chap.challenge agreed chap.phase text)))
by_request true access challenge texts name text chap agreed same t h = h
by_request false access challenge texts name text chap agreed same t h = turn_shown access challenge chap.challenge texts name text agreed chap.phase same (t refl) h

-- what a text shows
pub text_shown : (au : Authentication) (challenge : Option Challenge) (texts : List (List ℕ)) (name text : List ℕ) (chap : ChapState) (stays : Login) (r : LoginRequest) → chap.challenge ≡ challenge
    → (r.continues ≡ false → IsHeard au chap.phase texts text) → PhaseShown au challenge texts name chap.phase → PhaseShown au challenge texts name (phase_in chap.phase (shown_by au name chap stays r text))
text_shown authentication.None challenge texts name text chap stays r same t h = tt
text_shown (authentication.Chap access) challenge texts name text chap stays r same t h = by_request r.continues access challenge texts name text chap (is_agreed stays) same t h

pub going_on : (P : ChapPhase → Type 0) (au : Authentication) (old : ChapPhase) (stays : Login) (r : LoginRequest) (q : Result ChapPhase LoginStatus) → P old → P (phase_or old q) → P (phase_or old (after_authentication au stays r q))
going_on P au old stays r (Err fault) h i = h
going_on P au old stays r (Ok p) h i = either_of (λ (w : Result ChapPhase LoginStatus). P (phase_or old w)) (may_go_on au stays r p) (Ok p) (Err status.AuthenticationFailure) i h

-- a text that goes on shows nothing yet
pub pending : (au : Authentication) (name text : List ℕ) (chap : ChapState) (stays : Login) (r : LoginRequest) → r.continues ≡ true → phase_in chap.phase (shown_by au name chap stays r text) ≡ chap.phase
pending authentication.None name text chap stays r is = refl
pending (authentication.Chap access) name text chap stays r is =
    at_true (λ (v : Verdict). phase_in chap.phase v ≡ chap.phase) r.continues (silent chap.phase)
    (chap_turn access name chap.challenge (is_agreed stays) chap.phase text) is refl

pub pending_at : (next : Login) (au : Authentication) (name text : List ℕ) (chap : ChapState) (stays : Login) (r : LoginRequest) → r.continues ≡ true → (judgement_at next au name chap stays r text).phase ≡ chap.phase
pending_at (Ended (ends.Refused s)) au name text chap stays r is = refl
pending_at (Ended (ends.FullFeature f)) au name text chap stays r is =
    going_on (λ (p : ChapPhase). p ≡ chap.phase) au chap.phase stays r (phase_after (shown_by au name chap stays r text)) refl (pending au name text chap stays r is)
pending_at (Open l) au name text chap stays r is =
    going_on (λ (p : ChapPhase). p ≡ chap.phase) au chap.phase stays r (phase_after (shown_by au name chap stays r text)) refl (pending au name text chap stays r is)
