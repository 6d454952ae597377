-- As long as no algorithm has been asked for in an open login, none of its texts has offered any.
use Rattle.std.proofs.Common.{◌≡◌, ℕ, Bool, true, false, cond, List, [], ◌∷◌, ◌++◌, Option, Some, None, Result, Ok, Err, refl, ap}
use Rattle.iscsi_pdu.specs.declared.login_request.LoginRequest.{LoginRequest}
use Rattle.iscsi_pdu.specs.declared.login_status.LoginStatus.{LoginStatus}
use Rattle.iscsi_pdu.specs.declared.login_status.LoginStatus.TheVariants as status
use Rattle.iscsi_chap.specs.Algorithms.{chosen_algorithm}
use Rattle.iscsi_chap.specs.Authentications.{is_free, proved_by}
use Rattle.iscsi_chap.specs.Entries.{entry_among}
use Rattle.iscsi_chap.specs.Responses.{is_response}
use Rattle.iscsi_chap.specs.declared.algorithm.ChapAlgorithm.{ChapAlgorithm}
use Rattle.iscsi_chap.specs.declared.authentication.Authentication.{Authentication}
use Rattle.iscsi_chap.specs.declared.authentication.Authentication.TheVariants as authentication
use Rattle.iscsi_chap.specs.declared.authentication.ChapAccess.{ChapAccess}
use Rattle.iscsi_chap.specs.declared.challenge.Challenge.{Challenge}
use Rattle.iscsi_chap.specs.declared.entry.ChapEntry.{ChapEntry}
use Rattle.iscsi_chap.specs.declared.phase.ChapPhase.{ChapPhase}
use Rattle.iscsi_chap.specs.declared.phase.ChapPhase.TheVariants as phase
use Rattle.iscsi_login.specs.Authentications.{is_agreed, may_go_on, shown_by, after_authentication}
use Rattle.iscsi_login.specs.ChapKeys.{algorithm_key, challenge_key, identifier_key, name_key, response_key}
use Rattle.iscsi_login.specs.Chaps.{Verdict, silent, unproven, phase_after, says, says_any, says_challenge, says_response, challenged, asked_for, asked, shown, proven, answered_by, answered, chap_turn}
use Rattle.iscsi_login.specs.ExchangeRuns.{first_offer, unless_offered}
use Rattle.iscsi_login.specs.Exchanges.{ExchangeValue, refused_with, refused_after, is_out_of_turn, ready, judged, turn_in, gone, taken_at}
use Rattle.iscsi_login.specs.Logins.{stepped}
use Rattle.iscsi_login.specs.Names.{declared_as}
use Rattle.iscsi_login.specs.Turns.{held, judgement_at, judgement_on, phase_or, turn_by}
use Rattle.iscsi_login.specs.declared.chap.ChapState.{ChapState}
use Rattle.iscsi_login.specs.declared.login.Login.{Login}
use Rattle.iscsi_login.specs.declared.login.Login.TheVariants.{Open, Ended}
use Rattle.iscsi_login.specs.declared.login.LoginEnd.TheVariants as ends
use Rattle.iscsi_login.specs.declared.target.LoginTarget.{LoginTarget}
use Rattle.iscsi_login.specs.declared.turn.Turn.{Turn}
use Rattle.iscsi_login.specs.declared.turn.Turn.TheVariants.{Refuses, Goes, Stays}
use Rattle.iscsi_login.proofs.Shown.{either_of, phase_in, shown_passes}

-- ---- offers among texts

unless_none : (o later : Option (List ℕ)) → unless_offered o later ≡ None → (o ≡ None) × (later ≡ None)
unless_none None later e = (refl, e)
unless_none (Some list) later e = absurd cc

none_more : (before : List (List ℕ)) (text : List ℕ) → first_offer before ≡ None → declared_as text algorithm_key ≡ None
    → first_offer (before ++ text ∷ []) ≡ None
none_more [] text e none = ap (λ (o : Option (List ℕ)). unless_offered o None) none
none_more (first ∷ before) text e none = none_both _ _ (unless_none (declared_as first algorithm_key) (first_offer before) e).0
    (none_more before text (unless_none (declared_as first algorithm_key) (first_offer before) e).1 none)
  where
    none_both : (o later : Option (List ℕ)) → o ≡ None → later ≡ None → unless_offered o later ≡ None
    none_both None later p q = q
    none_both (Some list) later p q = absurd cc

pub first_is : (before : List (List ℕ)) (text : List ℕ) (texts : List (List ℕ)) (list : List ℕ) → first_offer before ≡ None
    → declared_as text algorithm_key ≡ Some list → first_offer (before ++ text ∷ texts) ≡ Some list
first_is [] text texts list e is = ap (λ (o : Option (List ℕ)). unless_offered o (first_offer texts)) is
first_is (first ∷ before) text texts list e is =
    behind _ _ (unless_none (declared_as first algorithm_key) (first_offer before) e).0
    (first_is before text texts list (unless_none (declared_as first algorithm_key) (first_offer before) e).1 is)
  where
    behind : (o later : Option (List ℕ)) → o ≡ None → later ≡ Some list → unless_offered o later ≡ Some list
    behind None later p q = q
    behind (Some other) later p q = absurd cc

-- ---- a phase and the texts before it

abbrev pub NoneBefore : Authentication → ChapPhase → (before : List (List ℕ)) → Type 0
NoneBefore authentication.None p before = Unit {0}
NoneBefore (authentication.Chap access) phase.Unasked before = first_offer before ≡ None
NoneBefore (authentication.Chap access) (phase.Challenged algorithm) before = Unit {0}
NoneBefore (authentication.Chap access) (phase.Passed place) before = Unit {0}

abbrev pub NoneOf : Authentication → Login → ChapPhase → (before : List (List ℕ)) → Type 0
NoneOf au (Open l) p before = NoneBefore au p before
NoneOf au (Ended end) p before = Unit {0}

abbrev OkNone : Authentication → (before : List (List ℕ)) → Result ChapPhase LoginStatus → Type 0
OkNone au before (Ok p) = NoneBefore au p before
OkNone au before (Err fault) = Unit {0}

-- ---- what answers a challenge asks for no algorithm

module _ (P : ChapPhase → Type 0) (algorithm : ChapAlgorithm) (here : P (phase.Challenged algorithm)) (passed : (place : ℕ) → P (phase.Passed place)) where
  proven_stays : (challenge : Challenge) (o : Option (ℕ × ChapEntry)) (response text : List ℕ)
      → P (phase_in (phase.Challenged algorithm) (proven algorithm challenge o response text))
  proven_stays challenge None response text = here
  proven_stays challenge (Some (place, entry)) response text =
      either_of (λ (v : Verdict). P (phase_in (phase.Challenged algorithm) v)) (is_response algorithm challenge entry.own.secret.items response)
      (shown place algorithm challenge entry.target (declared_as text identifier_key) (declared_as text challenge_key)) unproven
      (shown_passes P (phase.Challenged algorithm) place algorithm challenge entry.target (declared_as text identifier_key) (declared_as text challenge_key) here
      (passed place)) here

  answered_by_stays : (entries : List ChapEntry) (host : List ℕ) (challenge : Challenge) (text : List ℕ) (user response : Option (List ℕ))
      → P (phase_in (phase.Challenged algorithm) (answered_by entries host challenge algorithm text user response))
  answered_by_stays entries host challenge text None None =
      either_of (λ (v : Verdict). P (phase_in (phase.Challenged algorithm) v)) (says_challenge text) unproven (silent (phase.Challenged algorithm)) here here
  answered_by_stays entries host challenge text (Some user) (Some response) =
      proven_stays challenge (entry_among entries host user) response text
  answered_by_stays entries host challenge text None (Some response) = here
  answered_by_stays entries host challenge text (Some user) None = here

  answered_stays : (entries : List ChapEntry) (host : List ℕ) (o : Option Challenge) (text : List ℕ)
      → P (phase_in (phase.Challenged algorithm) (answered entries host o algorithm text))
  answered_stays entries host None text = here
  answered_stays entries host (Some challenge) text =
      either_of (λ (v : Verdict). P (phase_in (phase.Challenged algorithm) v)) (says text algorithm_key) (Err status.InitiatorError)
      (answered_by entries host challenge algorithm text (declared_as text name_key) (declared_as text response_key)) here
      (answered_by_stays entries host challenge text (declared_as text name_key) (declared_as text response_key))

ok_of : (au : Authentication) (before : List (List ℕ)) (old : ChapPhase) (v : Verdict) → NoneBefore au (phase_in old v) before → OkNone au before (phase_after v)
ok_of au before old (Ok step) h = h
ok_of au before old (Err fault) h = tt

-- ---- a text

challenged_none : (access : ChapAccess) (before : List (List ℕ)) (c : Option Challenge) (o : Option ChapAlgorithm)
    → OkNone (authentication.Chap access) before (phase_after (challenged c o))
challenged_none access before c None = tt
challenged_none access before None (Some algorithm) = tt
challenged_none access before (Some challenge) (Some algorithm) = tt

asked_for_none : (access : ChapAccess) (before : List (List ℕ)) (c : Option Challenge) (agreed : Bool) (o : Option (List ℕ))
    → (o ≡ None → first_offer before ≡ None) → OkNone (authentication.Chap access) before (phase_after (asked_for access.digests c agreed o))
asked_for_none access before c agreed None none = none refl
asked_for_none access before c agreed (Some list) none =
    either_of (λ (v : Verdict). OkNone (authentication.Chap access) before (phase_after v)) agreed (challenged c (chosen_algorithm access.digests list)) unproven
    (challenged_none access before c (chosen_algorithm access.digests list)) tt

turn_none : (access : ChapAccess) (c : Option Challenge) (name text : List ℕ) (agreed : Bool) (old : ChapPhase) (before : List (List ℕ))
    → NoneBefore (authentication.Chap access) old before
    → OkNone (authentication.Chap access) (before ++ text ∷ []) (phase_after (chap_turn access name c agreed old text))
unfolding chap_turn
turn_none access c name text agreed phase.Unasked before h =
    either_of (λ (v : Verdict). OkNone (authentication.Chap access) (before ++ text ∷ []) (phase_after v)) (says_response text) unproven
    (asked_for access.digests c agreed (declared_as text algorithm_key)) tt
    (asked_for_none access (before ++ text ∷ []) c agreed (declared_as text algorithm_key) (λ none. none_more before text h none))
turn_none access c name text agreed (phase.Challenged algorithm) before h =
    ok_of (authentication.Chap access) (before ++ text ∷ []) (phase.Challenged algorithm) (answered access.secrets.entries.items name c algorithm text)
    (answered_stays (λ p. NoneBefore (authentication.Chap access) p (before ++ text ∷ [])) algorithm tt (λ place. tt) access.secrets.entries.items name c text)
turn_none access c name text agreed (phase.Passed place) before h =
    either_of (λ (v : Verdict). OkNone (authentication.Chap access) (before ++ text ∷ []) (phase_after v)) (says_any text) (Err status.InitiatorError)
    (silent (phase.Passed place)) tt tt

-- the texts with one more, unless it goes on
abbrev pub heard_with : (continues : Bool) → (before : List (List ℕ)) → (text : List ℕ) → List (List ℕ)
heard_with continues before text = cond continues before (before ++ text ∷ [])

by_pieces : (b : Bool) (access : ChapAccess) (name text : List ℕ) (chap : ChapState) (agreed : Bool) (before : List (List ℕ))
    → NoneBefore (authentication.Chap access) chap.phase before
    → OkNone (authentication.Chap access) (heard_with b before text)
    (phase_after (cond b (silent chap.phase) (chap_turn access name chap.challenge agreed chap.phase text)))
by_pieces true access name text chap agreed before h = h
by_pieces false access name text chap agreed before h = turn_none access chap.challenge name text agreed chap.phase before h

none_asked : (before : List (List ℕ)) (q : Result ChapPhase LoginStatus) → OkNone authentication.None before q
none_asked before (Ok p) = tt
none_asked before (Err fault) = tt

verdict_none : (au : Authentication) (before : List (List ℕ)) (stays : Login) (r : LoginRequest) (q : Result ChapPhase LoginStatus) → OkNone au before q
    → OkNone au before (after_authentication au stays r q)
verdict_none au before stays r (Err fault) h = tt
verdict_none au before stays r (Ok p) h =
    either_of (OkNone au before) (may_go_on au stays r p) (Ok p) (Err status.AuthenticationFailure) h tt

text_none : (au : Authentication) (name text : List ℕ) (chap : ChapState) (stays : Login) (r : LoginRequest) (before : List (List ℕ))
    → NoneBefore au chap.phase before
    → OkNone au (heard_with r.continues before text) (after_authentication au stays r (phase_after (shown_by au name chap stays r text)))
text_none authentication.None name text chap stays r before h =
    none_asked (heard_with r.continues before text)
    (after_authentication authentication.None stays r (phase_after (shown_by authentication.None name chap stays r text)))
text_none (authentication.Chap access) name text chap stays r before h =
    verdict_none (authentication.Chap access) (heard_with r.continues before text) stays r
    (phase_after (shown_by (authentication.Chap access) name chap stays r text))
    (by_pieces r.continues access name text chap (is_agreed stays) before h)

-- ---- a turn

abbrev TurnNone : Authentication → (before : List (List ℕ)) → ChapPhase → Turn → Type 0
TurnNone au before p (Refuses s) = Unit {0}
TurnNone au before p (Goes l) = NoneBefore au p before
TurnNone au before p (Stays l) = NoneBefore au p before

any_turn : (au : Authentication) (before : List (List ℕ)) (p : ChapPhase) (t : Turn) → NoneBefore au p before → TurnNone au before p t
any_turn au before p (Refuses s) h = tt
any_turn au before p (Goes l) h = h
any_turn au before p (Stays l) h = h

by_authentication : (au : Authentication) (before : List (List ℕ)) (old : ChapPhase) (q : Result ChapPhase LoginStatus) (next stays : Login) (count : ℕ)
    → OkNone au before q → TurnNone au before (phase_or old q) (turn_by au q next stays count)
by_authentication au before old (Err s) next stays count h = tt
by_authentication au before old (Ok p) next stays count h = any_turn au before p (turn_by au (Ok p) next stays count) h

judged_none : (au : Authentication) (name text : List ℕ) (chap : ChapState) (r : LoginRequest) (next stays : Login) (count : ℕ) (before : List (List ℕ))
    → NoneBefore au chap.phase before
    → TurnNone au (heard_with r.continues before text) (judgement_at next au name chap stays r text).phase
    ((judgement_at next au name chap stays r text).turn count)
judged_none au name text chap r (Ended (ends.Refused s)) stays count before h = tt
judged_none au name text chap r (Ended (ends.FullFeature f)) stays count before h =
    by_authentication au (heard_with r.continues before text) chap.phase (after_authentication au stays r (phase_after (shown_by au name chap stays r text)))
    (Ended (ends.FullFeature f)) stays count (text_none au name text chap stays r before h)
judged_none au name text chap r (Open l) stays count before h =
    by_authentication au (heard_with r.continues before text) chap.phase (after_authentication au stays r (phase_after (shown_by au name chap stays r text)))
    (Open l) stays count (text_none au name text chap stays r before h)

-- ---- one request

any_login : (au : Authentication) (m : Login) (p : ChapPhase) (before : List (List ℕ)) → NoneBefore au p before → NoneOf au m p before
any_login au (Open l) p before h = h
any_login au (Ended end) p before h = tt

refused_none : (au : Authentication) (last : Option LoginRequest) (e : ExchangeValue) (s : LoginStatus) (before : List (List ℕ))
    → NoneOf au (refused_after last e s).login (refused_after last e s).chap.phase before
refused_none au None e s before = tt
refused_none au (Some r) e s before = tt

gone_none : (au : Authentication) (t : Turn) (e : ExchangeValue) (r : LoginRequest) (before : List (List ℕ)) → TurnNone au before e.chap.phase t
    → NoneOf au (gone t e r).login (gone t e r).chap.phase before
unfolding refused_with
gone_none au (Refuses s) e r before h = refused_none au e.last e s before
gone_none au (Goes (Ended end)) e r before h = tt
gone_none au (Goes (Open l)) e r before h = h
gone_none au (Stays l) e r before h = any_login au l e.chap.phase before h

pub login_none : (m : Login) (target : LoginTarget) (e : ExchangeValue) (r : LoginRequest) (payload : List ℕ) (before : List (List ℕ))
    → NoneOf target.authentication m e.chap.phase before
    → NoneOf target.authentication (taken_at m (record e { login = m }) target r payload).login (taken_at m (record e { login = m }) target r payload).chap.phase
    (heard_with r.continues before (e.gathered ++ payload))
unfolding refused_with
login_none (Ended end) target e r payload before h = tt
login_none (Open l) target e r payload before h =
    let now : ExchangeValue = ready (record e { login = Open l }) r payload in
    let text = e.gathered ++ payload in
    let after = heard_with r.continues before text in
    either_of (λ (x : ExchangeValue). NoneOf target.authentication x.login x.chap.phase after) (is_out_of_turn (record e { login = Open l }) r payload)
    (refused_with (record e { login = Open l; last = Some r }) status.InitiatorError) (gone (turn_in now target r) (judged now target r) r) tt
    (gone_none target.authentication (turn_in now target r) (judged now target r) r after
    (judged_none target.authentication now.name text e.chap r (stepped (Open l) target r text) (stepped (Open l) target (held r) text) _ before h))
