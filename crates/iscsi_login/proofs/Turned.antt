-- What a request makes of an exchange, by what the texts have shown.
use Rattle.std.proofs.Common.{◌≡◌, ℕ, Bool, true, false, cond, List, [], ◌++◌, Option, Some, None, Result, Ok, Err, unwrap_or, nat_le, refl, sym, ap, subst, ◌∙◌}
use Rattle.iscsi_pdu.specs.declared.stage.Stage.{Stage}
use Rattle.iscsi_pdu.specs.declared.stage.Stage.TheVariants as stage
use Rattle.iscsi_pdu.specs.declared.login_request.LoginRequest.{LoginRequest}
use Rattle.iscsi_pdu.specs.declared.login_status.LoginStatus.{LoginStatus}
use Rattle.iscsi_pdu.specs.declared.login_status.LoginStatus.TheVariants as status
use Rattle.iscsi_keys.specs.declared.key.Key.TheVariants as key
use Rattle.iscsi_login.specs.Admissions.{admitted_by, names_free, offered_by, says_the_same}
use Rattle.iscsi_chap.specs.Authentications.{is_free, proved_by}
use Rattle.iscsi_login.specs.Authentications.{shown_by, after_authentication}
use Rattle.iscsi_login.specs.Chaps.{phase_after, shown}
use Rattle.iscsi_login.specs.Exchanges.{ExchangeValue, refused_with, refused_after, is_out_of_turn, ready, name_unless, judged, turn_in, gone, taken_at, taken}
use Rattle.iscsi_login.specs.ExchangeRuns.{IsEntryOf, IsAuthenticated}
use Rattle.iscsi_login.specs.Logins.{stepped, unless_fault, request_fault, moved_if, moved_to, open_at, with_proof}
use Rattle.iscsi_login.specs.Logins as logins
use Rattle.iscsi_login.specs.Names.{declared}
use Rattle.iscsi_login.specs.Runs.{IsEntry}
use Rattle.iscsi_login.specs.Turns.{held, limit_of, turn_at, turn_if_fits, turn_by, phase_or, judgement_on, judgement_at, judgement}
use Rattle.iscsi_chap.specs.declared.access.Admission.{Admission}
use Rattle.iscsi_login.specs.declared.admitted.Admitted.{Admitted}
use Rattle.iscsi_chap.specs.declared.challenge.Challenge.{Challenge}
use Rattle.iscsi_chap.specs.declared.phase.ChapPhase.{ChapPhase}
use Rattle.iscsi_chap.specs.declared.phase.ChapPhase.TheVariants as phase
use Rattle.iscsi_login.specs.declared.chap.ChapState.{ChapState}
use Rattle.iscsi_chap.specs.declared.session_type.SessionType.{SessionType}
use Rattle.iscsi_chap.specs.declared.authentication.Authentication.{Authentication}
use Rattle.iscsi_chap.specs.declared.authentication.Authentication.TheVariants as authentication
use Rattle.iscsi_login.specs.declared.target.LoginTarget.{LoginTarget}
use Rattle.iscsi_login.specs.declared.login.Login.{Login}
use Rattle.iscsi_login.specs.declared.login.Login.TheVariants.{Open, Ended}
use Rattle.iscsi_login.specs.declared.login.OpenLogin.{OpenLogin}
use Rattle.iscsi_login.specs.declared.login.LoginEnd.TheVariants as ends
use Rattle.iscsi_login.specs.declared.turn.Turn.{Turn}
use Rattle.iscsi_login.specs.declared.turn.Turn.TheVariants.{Refuses, Goes, Stays}
use Rattle.iscsi_login.proofs.Reached.{IsSoundIfSome, IsSoundIfOk, IsSoundLogin, come_sound, text_sound, either_sound, moved_sound, unless_sound}
use Rattle.iscsi_login.proofs.Shown.{EndShown, ExchangeShown, Fresh, FreshIn, IsHeard, IsText, LoginShown, PhaseShown, Shown, at_false, at_true, either_if, either_of, going_on, here_in, open_phase, pending_at, text_shown}

-- ---- the login that a request makes

pub come_first : (P : Admission → SessionType → Type 0) (o : Option Admitted) (target : LoginTarget) (text : List ℕ) → (o ≡ None → (a : Admission) (s : SessionType) → IsEntry target text a s → P a s)
    → IsSoundIfSome P o → IsSoundIfOk P (admitted_by o target text)
come_first P None target text each h = come_sound P None target text (each refl) h
come_first P (Some a) target text each h = either_sound P (says_the_same target a text) _ (offered_by (names_free a) text) (text_sound P (names_free a) text h)

pub step_shown : (P : Admission → SessionType → Type 0) (b : Bool) (l : OpenLogin) (target : LoginTarget) (r : LoginRequest) (text : List ℕ) → r.continues ≡ b
    → (l.admitted ≡ None → b ≡ false → (a : Admission) (s : SessionType) → IsEntry target text a s → P a s) → IsSoundIfSome P l.admitted → IsSoundLogin P (stepped (Open l) target r text)
step_shown P true l target r text is each h =
    unless_sound P (request_fault l r) (logins.taken l target r text)
    (at_true (IsSoundLogin P) r.continues (open_at l.portal_group r r.current_stage l.admitted) (moved_if l.portal_group r (admitted_by l.admitted target text)) is h)
step_shown P false l target r text is each h =
    unless_sound P (request_fault l r) (logins.taken l target r text)
    (at_false (IsSoundLogin P) r.continues (open_at l.portal_group r r.current_stage l.admitted) (moved_if l.portal_group r (admitted_by l.admitted target text)) is
    (moved_sound P l.portal_group r (admitted_by l.admitted target text) (come_first P l.admitted target text (λ e. each e refl) h)))

pub unless_of : (Q : Login → Type 0) (o : Option LoginStatus) (m : Login) → ((s : LoginStatus) → Q (Ended (ends.Refused s))) → Q m → Q (unless_fault o m)
unless_of Q (Some s) m each h = each s
unless_of Q None m each h = h

pub to_fresh : (s : Stage) (group : ℕ) (r : LoginRequest) (a : Admitted) (p : ChapPhase) → Fresh (moved_to s group r a) p
to_fresh stage.FullFeaturePhase group r a p = tt
to_fresh stage.SecurityNegotiation group r a p = tt
to_fresh stage.LoginOperationalNegotiation group r a p = tt
to_fresh stage.Reserved group r a p = tt

pub moved_fresh : (group : ℕ) (r : LoginRequest) (a : Result Admitted LoginStatus) (p : ChapPhase) → Fresh (moved_if group r a) p
moved_fresh group r (Err s) p = tt
moved_fresh group r (Ok a) p =
    either_of (λ (m : Login). Fresh m p) r.transit (moved_to r.next_stage group r a) (open_at group r r.current_stage (Some a)) (to_fresh r.next_stage group r a p) tt

pub step_fresh : (b : Bool) (l : OpenLogin) (target : LoginTarget) (r : LoginRequest) (text : List ℕ) (p : ChapPhase) → r.continues ≡ b → (b ≡ true → FreshIn l.admitted p) → Fresh (stepped (Open l) target r text) p
step_fresh true l target r text p is h =
    unless_of (λ (m : Login). Fresh m p) (request_fault l r) (logins.taken l target r text) (λ s. tt)
    (at_true (λ (m : Login). Fresh m p) r.continues (open_at l.portal_group r r.current_stage l.admitted) (moved_if l.portal_group r (admitted_by l.admitted target text)) is (h refl))
step_fresh false l target r text p is h =
    unless_of (λ (m : Login). Fresh m p) (request_fault l r) (logins.taken l target r text) (λ s. tt)
    (at_false (λ (m : Login). Fresh m p) r.continues (open_at l.portal_group r r.current_stage l.admitted) (moved_if l.portal_group r (admitted_by l.admitted target text)) is
    (moved_fresh l.portal_group r (admitted_by l.admitted target text) p))

pub moved_end : (au : Authentication) (challenge : Option Challenge) (texts : List (List ℕ)) (name : List ℕ) (group : ℕ) (r : LoginRequest) (a : Result Admitted LoginStatus) → EndShown au challenge texts name (moved_if group (held r) a)
moved_end au challenge texts name group r (Err s) = tt
moved_end au challenge texts name group r (Ok a) = tt

-- without T no login reaches its end
pub held_end : (au : Authentication) (challenge : Option Challenge) (texts : List (List ℕ)) (name : List ℕ) (l : OpenLogin) (target : LoginTarget) (r : LoginRequest) (text : List ℕ)
    → EndShown au challenge texts name (stepped (Open l) target (held r) text)
held_end au challenge texts name l target r text =
    unless_of (EndShown au challenge texts name) (request_fault l (held r)) (logins.taken l target (held r) text) (λ s. tt)
    (either_of (EndShown au challenge texts name) r.continues (open_at l.portal_group (held r) r.current_stage l.admitted) (moved_if l.portal_group (held r) (admitted_by l.admitted target text)) tt
    (moved_end au challenge texts name l.portal_group r (admitted_by l.admitted target text)))

-- ---- turns

pub free_shown : (au : Authentication) (challenge : Option Challenge) (texts : List (List ℕ)) (name : List ℕ) (p : ChapPhase) → is_free au p ≡ true → PhaseShown au challenge texts name p
    → IsAuthenticated au challenge name (proved_by au p) texts
free_shown authentication.None challenge texts name p h i = tt
free_shown (authentication.Chap access) challenge texts name phase.Unasked h i = absurd cc
free_shown (authentication.Chap access) challenge texts name (phase.Challenged algorithm) h i = absurd cc
free_shown (authentication.Chap access) challenge texts name (phase.Passed place) h i = i

-- with what was proved it is shown for the session
pub proof_shown : (target : LoginTarget) (challenge : Option Challenge) (texts : List (List ℕ)) (name : List ℕ) (p : ChapPhase) (m : Login) (proved : Option ℕ)
    → IsAuthenticated target.authentication challenge name proved texts → IsSoundLogin (Shown target texts name) m → Fresh m p → LoginShown target challenge texts name p (with_proof m proved)
proof_shown target challenge texts name p (Open l) proved h sound fresh = record { sound = sound; end = tt; fresh = fresh }
proof_shown target challenge texts name p (Ended (ends.Refused s)) proved h sound fresh = record { sound = tt; end = tt; fresh = tt }
proof_shown target challenge texts name p (Ended (ends.FullFeature f)) proved h sound fresh = record { sound = sound; end = h; fresh = tt }

abbrev pub TurnShown : LoginTarget → Option Challenge → (texts : List (List ℕ)) → (name : List ℕ) → ChapPhase → Turn → Type 0
TurnShown target challenge texts name p (Refuses s) = Unit {0}
TurnShown target challenge texts name p (Goes l) = LoginShown target challenge texts name p l
TurnShown target challenge texts name p (Stays l) = LoginShown target challenge texts name p l

pub fits_shown : (target : LoginTarget) (challenge : Option Challenge) (texts : List (List ℕ)) (name : List ℕ) (p : ChapPhase) (next stays : Login) (count : ℕ) → LoginShown target challenge texts name p next
    → LoginShown target challenge texts name p stays → TurnShown target challenge texts name p (turn_if_fits next stays count)
fits_shown target challenge texts name p next stays count h i =
    either_of (TurnShown target challenge texts name p) (nat_le count (limit_of next)) (Goes next) (Stays stays) h i

pub at_shown : (target : LoginTarget) (challenge : Option Challenge) (texts : List (List ℕ)) (name : List ℕ) (p : ChapPhase) (next stays : Login) (count : ℕ) → LoginShown target challenge texts name p next
    → LoginShown target challenge texts name p stays → TurnShown target challenge texts name p (turn_at next stays count)
at_shown target challenge texts name p (Ended (ends.Refused s)) stays count h i = tt
at_shown target challenge texts name p (Ended (ends.FullFeature f)) stays count h i = fits_shown target challenge texts name p (Ended (ends.FullFeature f)) stays count h i
at_shown target challenge texts name p (Open l) stays count h i = fits_shown target challenge texts name p (Open l) stays count h i

pub by_turn : (target : LoginTarget) (challenge : Option Challenge) (texts : List (List ℕ)) (name : List ℕ) (old : ChapPhase) (q : Result ChapPhase LoginStatus) (next stays : Login) (count : ℕ)
    → PhaseShown target.authentication challenge texts name (phase_or old q) → IsSoundLogin (Shown target texts name) next → Fresh next (phase_or old q)
    → LoginShown target challenge texts name (phase_or old q) stays → TurnShown target challenge texts name (phase_or old q) (turn_by target.authentication q next stays count)
by_turn target challenge texts name old (Err s) next stays count shown sound fresh i = tt
by_turn target challenge texts name old (Ok p) next stays count shown sound fresh i =
    let proved : Option ℕ = proved_by target.authentication p in
    either_if (TurnShown target challenge texts name p) (is_free target.authentication p) (turn_at (with_proof next proved) stays count) (Stays stays)
    (λ is. at_shown target challenge texts name p (with_proof next proved) stays count
    (proof_shown target challenge texts name p next proved (free_shown target.authentication challenge texts name p is shown) sound fresh) i)
    i

pub on_judged : (target : LoginTarget) (challenge : Option Challenge) (texts : List (List ℕ)) (name text : List ℕ) (chap : ChapState) (r : LoginRequest) (next stays : Login) (count : ℕ)
    → chap.challenge ≡ challenge → (r.continues ≡ false → IsHeard target.authentication chap.phase texts text) → PhaseShown target.authentication challenge texts name chap.phase
    → IsSoundLogin (Shown target texts name) next → Fresh next (judgement_on target.authentication name chap next stays r text).phase
    → LoginShown target challenge texts name (judgement_on target.authentication name chap next stays r text).phase stays
    → PhaseShown target.authentication challenge texts name (judgement_on target.authentication name chap next stays r text).phase
    × TurnShown target challenge texts name (judgement_on target.authentication name chap next stays r text).phase ((judgement_on target.authentication name chap next stays r text).turn count)
on_judged target challenge texts name text chap r next stays count same t h sound fresh i =
    let q : Result ChapPhase LoginStatus = phase_after (shown_by target.authentication name chap stays r text) in
    let shown : PhaseShown target.authentication challenge texts name (phase_or chap.phase (after_authentication target.authentication stays r q)) =
    going_on (PhaseShown target.authentication challenge texts name) target.authentication chap.phase stays r q h (text_shown target.authentication challenge texts name text chap stays r same t h) in
    (shown, by_turn target challenge texts name chap.phase (after_authentication target.authentication stays r q) next stays count shown sound fresh i)

pub at_judged : (target : LoginTarget) (challenge : Option Challenge) (texts : List (List ℕ)) (name text : List ℕ) (chap : ChapState) (r : LoginRequest) (next stays : Login) (count : ℕ)
    → chap.challenge ≡ challenge → (r.continues ≡ false → IsHeard target.authentication chap.phase texts text) → PhaseShown target.authentication challenge texts name chap.phase
    → IsSoundLogin (Shown target texts name) next → Fresh next (judgement_at next target.authentication name chap stays r text).phase
    → LoginShown target challenge texts name (judgement_at next target.authentication name chap stays r text).phase stays
    → PhaseShown target.authentication challenge texts name (judgement_at next target.authentication name chap stays r text).phase
    × TurnShown target challenge texts name (judgement_at next target.authentication name chap stays r text).phase ((judgement_at next target.authentication name chap stays r text).turn count)
at_judged target challenge texts name text chap r (Ended (ends.Refused s)) stays count same t h sound fresh i = (h, tt)
at_judged target challenge texts name text chap r (Ended (ends.FullFeature f)) stays count same t h sound fresh i =
    on_judged target challenge texts name text chap r (Ended (ends.FullFeature f)) stays count same t h sound fresh i
at_judged target challenge texts name text chap r (Open l) stays count same t h sound fresh i =
    on_judged target challenge texts name text chap r (Open l) stays count same t h sound fresh i

-- what a request makes of an open login
pub open_judged : (target : LoginTarget) (challenge : Option Challenge) (texts : List (List ℕ)) (name text : List ℕ) (chap : ChapState) (r : LoginRequest) (l : OpenLogin) (count : ℕ)
    → chap.challenge ≡ challenge → (r.continues ≡ false → IsHeard target.authentication chap.phase texts text) → PhaseShown target.authentication challenge texts name chap.phase → FreshIn l.admitted chap.phase
    → IsSoundIfSome (Shown target texts name) l.admitted
    → (l.admitted ≡ None → r.continues ≡ false → (a : Admission) (s : SessionType) → IsEntry target text a s → Shown target texts name a s)
    → PhaseShown target.authentication challenge texts name (judgement (Open l) name chap target r text).phase
    × TurnShown target challenge texts name (judgement (Open l) name chap target r text).phase ((judgement (Open l) name chap target r text).turn count)
open_judged target challenge texts name text chap r l count same t h fresh sound each =
    let next : Login = stepped (Open l) target r text in
    let stays : Login = stepped (Open l) target (held r) text in
    let kept_fresh : r.continues ≡ true → FreshIn l.admitted (judgement_at next target.authentication name chap stays r text).phase =
    λ is. subst (FreshIn l.admitted) (sym (pending_at next target.authentication name text chap stays r is)) fresh in
    at_judged target challenge texts name text chap r next stays count same t h
    (step_shown (Shown target texts name) r.continues l target r text refl each sound)
    (step_fresh r.continues l target r text _ refl kept_fresh)
    (record {
      sound = step_shown (Shown target texts name) r.continues l target (held r) text refl each sound;
      end = held_end target.authentication challenge texts name l target r text;
      fresh = step_fresh r.continues l target (held r) text _ refl kept_fresh;
    })

-- ---- one request

pub refused_shown : (target : LoginTarget) (challenge : Option Challenge) (texts : List (List ℕ)) (last : Option LoginRequest) (e : ExchangeValue) (s : LoginStatus)
    → PhaseShown target.authentication challenge texts e.name e.chap.phase → e.chap.challenge ≡ challenge → ExchangeShown target challenge texts (refused_after last e s)
refused_shown target challenge texts None e s p c = record { login = record { sound = tt; end = tt; fresh = tt }; phase = p; same = c }
refused_shown target challenge texts (Some r) e s p c = record { login = record { sound = tt; end = tt; fresh = tt }; phase = p; same = c }

pub gone_shown : (target : LoginTarget) (challenge : Option Challenge) (texts : List (List ℕ)) (t : Turn) (e : ExchangeValue) (r : LoginRequest)
    → PhaseShown target.authentication challenge texts e.name e.chap.phase × TurnShown target challenge texts e.name e.chap.phase t → e.chap.challenge ≡ challenge
    → ExchangeShown target challenge texts (gone t e r)
unfolding refused_with
gone_shown target challenge texts (Refuses s) e r h c = refused_shown target challenge texts e.last e s h.0 c
gone_shown target challenge texts (Goes (Ended end)) e r h c = record { login = h.1; phase = h.0; same = c }
gone_shown target challenge texts (Goes (Open l)) e r h c = record { login = h.1; phase = h.0; same = c }
gone_shown target challenge texts (Stays l) e r h c = record { login = h.1; phase = h.0; same = c }

pub renamed : (target : LoginTarget) (texts : List (List ℕ)) (o : Option Admitted) (name text : List ℕ) → IsSoundIfSome (Shown target texts name) o → IsSoundIfSome (Shown target texts (name_unless o text name)) o
renamed target texts None name text h = tt
renamed target texts (Some a) name text h = h

pub rephased : (au : Authentication) (challenge : Option Challenge) (texts : List (List ℕ)) (o : Option Admitted) (name text : List ℕ) (p : ChapPhase) → FreshIn o p → PhaseShown au challenge texts name p
    → PhaseShown au challenge texts (name_unless o text name) p
rephased au challenge texts None name text p fresh h = open_phase au challenge texts name (name_unless None text name) p fresh h
rephased au challenge texts (Some a) name text p fresh h = h

pub entry_shown : (target : LoginTarget) (texts : List (List ℕ)) (name text : List ℕ) (a : Admission) (s : SessionType) → name ≡ unwrap_or (declared text key.InitiatorName) [] → IsText texts text → IsEntry target text a s
    → Shown target texts name a s
entry_shown target texts name text a s e t entry =
    let is : name ≡ entry.name = e ∙ ap (λ (o : Option (List ℕ)). unwrap_or o []) entry.named in
    here_in (λ (u : List ℕ). IsEntryOf target u name a s) texts text t
    (subst (λ (n : List ℕ). IsEntryOf target text n a s) (sym is) (record { named = entry.named; let_in = entry.let_in; of_type = entry.of_type; at_target = entry.at_target }))

abbrev pub Heard : Authentication → ChapPhase → Login → LoginRequest → (texts : List (List ℕ)) → (text : List ℕ) → Type 0
Heard au p (Open l) r texts text = r.continues ≡ false → IsHeard au p texts text
Heard au p (Ended end) r texts text = Unit {0}

pub at_login : (m : Login) (target : LoginTarget) (challenge : Option Challenge) (texts : List (List ℕ)) (e : ExchangeValue) (r : LoginRequest) (payload : List ℕ) → Heard target.authentication e.chap.phase m r texts (e.gathered ++ payload)
    → ExchangeShown target challenge texts (record e { login = m }) → ExchangeShown target challenge texts (taken_at m (record e { login = m }) target r payload)
unfolding refused_with
at_login (Ended end) target challenge texts e r payload t h = h
at_login (Open l) target challenge texts e r payload t h =
    let text : List ℕ = e.gathered ++ payload in
    let name : List ℕ = cond r.continues e.name (name_unless l.admitted text e.name) in
    let before : ExchangeValue = ready (record e { login = Open l }) r payload in
    either_of (ExchangeShown target challenge texts) (is_out_of_turn (record e { login = Open l }) r payload)
    (refused_with (record e { login = Open l; last = Some r }) status.InitiatorError) (gone (turn_in before target r) (judged before target r) r)
    (refused_shown target challenge texts (Some r) (record e { login = Open l; last = Some r }) status.InitiatorError h.phase h.same)
    (gone_shown target challenge texts (turn_in before target r) (judged before target r) r
    (open_judged target challenge texts name text e.chap r l _ h.same t
    (either_of (λ (n : List ℕ). PhaseShown target.authentication challenge texts n e.chap.phase) r.continues e.name (name_unless l.admitted text e.name) h.phase
    (rephased target.authentication challenge texts l.admitted e.name text e.chap.phase h.login.fresh h.phase))
    h.login.fresh
    (either_of (λ (n : List ℕ). IsSoundIfSome (Shown target texts n) l.admitted) r.continues e.name (name_unless l.admitted text e.name) h.login.sound
    (renamed target texts l.admitted e.name text h.login.sound))
    (λ none is a s. entry_shown target texts name text a s
    (at_false (λ (n : List ℕ). n ≡ unwrap_or (declared text key.InitiatorName) []) r.continues e.name (name_unless l.admitted text e.name) is (ap (λ (o : Option Admitted). name_unless o text e.name) none))
    (t is).0))
    h.same)

pub taken_shown : (target : LoginTarget) (challenge : Option Challenge) (texts : List (List ℕ)) (e : ExchangeValue) (r : LoginRequest) (payload : List ℕ) → Heard target.authentication e.chap.phase e.login r texts (e.gathered ++ payload)
    → ExchangeShown target challenge texts e → ExchangeShown target challenge texts (taken e target r payload)
unfolding taken
taken_shown target challenge texts e r payload t h = at_login e.login target challenge texts e r payload t h
