-- An exchange reaches full feature through a name that is let in and, where the target asks for it, the digest of that name's secret.
use Rattle.std.proofs.Common.{◌≡◌, ◌∙◌, ℕ, suc, Bool, true, false, cond, List, [], ◌∷◌, ◌++◌, Option, Some, None, refl, sym, ap, subst, append_assoc, arith}
use Rattle.std.specs.Prelude.{Any}
use Rattle.iscsi_pdu.specs.declared.login_request.LoginRequest.{LoginRequest}
use Rattle.iscsi_pdu.specs.declared.login_status.LoginStatus.{LoginStatus}
use Rattle.iscsi_pdu.specs.declared.login_status.LoginStatus.TheVariants as status
use Rattle.iscsi_keys.specs.Parameters.{AreInRange}
use Rattle.iscsi_login.specs.Chaps.{shown}
use Rattle.iscsi_login.specs.Exchanges.{ExchangeValue, started, refused_with, refused_after, is_out_of_turn, ready, judged, turn_in, kept, gone, taken_at, taken, end_progress, turn_progress, progress_at, progress_of}
use Rattle.iscsi_login.specs.ExchangeRuns.{exchanged, first_offer, texts_from, texts_of, IsAuthenticated, IsLetIn}
use Rattle.iscsi_login.specs.Runs.{Coming}
use Rattle.iscsi_chap.specs.declared.challenge.Challenge.{Challenge}
use Rattle.iscsi_chap.specs.declared.authentication.Authentication.{Authentication}
use Rattle.iscsi_chap.specs.declared.authentication.Authentication.TheVariants as authentication
use Rattle.iscsi_chap.specs.declared.phase.ChapPhase.{ChapPhase}
use Rattle.iscsi_chap.specs.declared.phase.ChapPhase.TheVariants as phase
use Rattle.iscsi_login.specs.declared.target.LoginTarget.{LoginTarget}
use Rattle.iscsi_login.specs.declared.login.Login.{Login}
use Rattle.iscsi_login.specs.declared.login.Login.TheVariants.{Open, Ended}
use Rattle.iscsi_login.specs.declared.login.LoginEnd.{LoginEnd}
use Rattle.iscsi_login.specs.declared.login.LoginEnd.TheVariants as ends
use Rattle.iscsi_login.specs.declared.login.FullFeature.{FullFeature}
use Rattle.iscsi_login.specs.declared.turn.Turn.{Turn}
use Rattle.iscsi_login.specs.declared.turn.Turn.TheVariants.{Refuses, Goes, Stays}
use Rattle.iscsi_login.specs.declared.progress.LoginProgress.{LoginProgress}
use Rattle.iscsi_login.specs.declared.progress.LoginProgress.TheVariants as progress
use Rattle.iscsi_login.proofs.Reached.{IsSoundLogin}
use Rattle.iscsi_login.proofs.Offered.{NoneBefore, NoneOf, first_is, heard_with, login_none}
use Rattle.iscsi_login.proofs.Shown.{EndShown, ExchangeShown, IsHeard, IsText, OffersFirst, Shown, either_of, unasked_shown}
use Rattle.iscsi_login.proofs.Turned.{Heard, taken_shown}

-- ---- what is gathered

abbrev Gathers : Login → (gathered expected : List ℕ) → Type 0
Gathers (Open l) gathered expected = gathered ≡ expected
Gathers (Ended end) gathered expected = Unit {0}

any_gathers : (m : Login) (gathered expected : List ℕ) → gathered ≡ expected → Gathers m gathered expected
any_gathers (Open l) gathered expected h = h
any_gathers (Ended end) gathered expected h = tt

abbrev ExchangeGathers : (expected : List ℕ) → ExchangeValue → Type 0
ExchangeGathers expected e = Gathers e.login e.gathered expected

refused_gathers : (last : Option LoginRequest) (e : ExchangeValue) (s : LoginStatus) (expected : List ℕ) → ExchangeGathers expected (refused_after last e s)
refused_gathers None e s expected = tt
refused_gathers (Some r) e s expected = tt

gone_gathers : (t : Turn) (e : ExchangeValue) (r : LoginRequest) → ExchangeGathers (kept e r) (gone t e r)
unfolding refused_with
gone_gathers (Refuses s) e r = refused_gathers e.last e s (kept e r)
gone_gathers (Goes (Ended end)) e r = tt
gone_gathers (Goes (Open l)) e r = refl
gone_gathers (Stays l) e r = any_gathers l (kept e r) (kept e r) refl

login_gathers : (m : Login) (target : LoginTarget) (e : ExchangeValue) (r : LoginRequest) (payload : List ℕ)
    → ExchangeGathers (cond r.continues (e.gathered ++ payload) []) (taken_at m (record e { login = m }) target r payload)
unfolding refused_with
login_gathers (Ended end) target e r payload = tt
login_gathers (Open l) target e r payload =
    let before : ExchangeValue = ready (record e { login = Open l }) r payload in
    either_of (ExchangeGathers (cond r.continues (e.gathered ++ payload) [])) (is_out_of_turn (record e { login = Open l }) r payload)
    (refused_with (record e { login = Open l; last = Some r }) status.InitiatorError) (gone (turn_in before target r) (judged before target r) r)
    tt (gone_gathers (turn_in before target r) (judged before target r) r)

-- ---- one request after another

first_text : (P : List ℕ → Type 0) (text : List ℕ) (texts : List (List ℕ)) → P text → Any P (text ∷ texts)
first_text P text texts p = (0, text, omega arith, refl, p)

later_text : (P : List ℕ → Type 0) (text : List ℕ) (texts : List (List ℕ)) → Any P texts → Any P (text ∷ texts)
later_text P text texts (k, x, lt, is, p) = (suc k, x, omega arith, is, p)

head_in : (b : Bool) (texts others behind : List (List ℕ)) (text : List ℕ) → ((t : List ℕ) → IsText (cond b others (text ∷ behind)) t → IsText texts t) → b ≡ false → IsText texts text
head_in true texts others behind text h is = absurd cc
head_in false texts others behind text h is = h text (first_text (λ (t : List ℕ). t ≡ text) text behind refl)

rest_in : (b : Bool) (texts : List (List ℕ)) (text : List ℕ) (cs : List Coming) → ((t : List ℕ) → IsText (cond b (texts_from text cs) (text ∷ texts_from [] cs)) t → IsText texts t)
    → (t : List ℕ) → IsText (texts_from (cond b text []) cs) t → IsText texts t
rest_in true texts text cs h t some = h t some
rest_in false texts text cs h t some = h t (later_text (λ (u : List ℕ). u ≡ t) text (texts_from [] cs) some)

-- a text that is whole is the first to offer algorithms, where none was asked for
offers : (au : Authentication) (p : ChapPhase) (texts before behind : List (List ℕ)) (text : List ℕ) → texts ≡ before ++ text ∷ behind → NoneBefore au p before
    → OffersFirst au p texts text
offers authentication.None p texts before behind text all none = tt
offers (authentication.Chap access) phase.Unasked texts before behind text all none =
    λ list is. ap first_offer all ∙ first_is before text behind list none is
offers (authentication.Chap access) (phase.Challenged algorithm) texts before behind text all none = tt
offers (authentication.Chap access) (phase.Passed place) texts before behind text all none = tt

whole_offers : (b : Bool) (au : Authentication) (p : ChapPhase) (texts before others behind : List (List ℕ)) (text : List ℕ)
    → texts ≡ before ++ cond b others (text ∷ behind) → NoneBefore au p before → b ≡ false → OffersFirst au p texts text
whole_offers true au p texts before others behind text all none is = absurd cc
whole_offers false au p texts before others behind text all none is = offers au p texts before behind text all none

heard_of : (m : Login) (au : Authentication) (p : ChapPhase) (r : LoginRequest) (texts before others behind : List (List ℕ)) (gathered expected payload : List ℕ)
    → Gathers m gathered expected → (r.continues ≡ false → IsText texts (expected ++ payload)) → NoneOf au m p before
    → texts ≡ before ++ cond r.continues others ((expected ++ payload) ∷ behind) → Heard au p m r texts (gathered ++ payload)
heard_of (Open l) au p r texts before others behind gathered expected payload g h none all =
    λ is. subst (λ (x : List ℕ). IsHeard au p texts (x ++ payload)) (sym g)
    (h is, whole_offers r.continues au p texts before others behind (expected ++ payload) all none is)
heard_of (Ended end) au p r texts before others behind gathered expected payload g h none all = tt

-- and the texts before the next one
split_on : (b : Bool) (texts before : List (List ℕ)) (text : List ℕ) (cs : List Coming) → texts ≡ before ++ cond b (texts_from text cs) (text ∷ texts_from [] cs)
    → texts ≡ heard_with b before text ++ texts_from (cond b text []) cs
split_on true texts before text cs all = all
split_on false texts before text cs all = all ∙ sym (append_assoc before (text ∷ []) (texts_from [] cs))

next_none : (m : Login) (target : LoginTarget) (e : ExchangeValue) (r : LoginRequest) (payload expected : List ℕ) (before : List (List ℕ))
    → Gathers m e.gathered expected → NoneOf target.authentication m e.chap.phase before
    → NoneOf target.authentication (taken_at m (record e { login = m }) target r payload).login (taken_at m (record e { login = m }) target r payload).chap.phase
    (heard_with r.continues before (expected ++ payload))
next_none (Ended end) target e r payload expected before g none = tt
next_none (Open l) target e r payload expected before g none =
    let after = taken_at (Open l) (record e { login = Open l }) target r payload in
    subst (λ (x : List ℕ). NoneOf target.authentication after.login after.chap.phase (heard_with r.continues before (x ++ payload))) g
    (login_none (Open l) target e r payload before none)

then_none : (target : LoginTarget) (e : ExchangeValue) (r : LoginRequest) (payload expected : List ℕ) (before : List (List ℕ)) → ExchangeGathers expected e
    → NoneOf target.authentication e.login e.chap.phase before
    → NoneOf target.authentication (taken e target r payload).login (taken e target r payload).chap.phase (heard_with r.continues before (expected ++ payload))
unfolding taken
then_none target e r payload expected before g none = next_none e.login target e r payload expected before g none

next_gathers : (m : Login) (target : LoginTarget) (e : ExchangeValue) (r : LoginRequest) (payload expected : List ℕ) → Gathers m e.gathered expected
    → ExchangeGathers (cond r.continues (expected ++ payload) []) (taken_at m (record e { login = m }) target r payload)
next_gathers (Ended end) target e r payload expected g = tt
next_gathers (Open l) target e r payload expected g =
    subst (λ (x : List ℕ). ExchangeGathers (cond r.continues (x ++ payload) []) (taken_at (Open l) (record e { login = Open l }) target r payload)) g (login_gathers (Open l) target e r payload)

then_gathers : (target : LoginTarget) (e : ExchangeValue) (r : LoginRequest) (payload expected : List ℕ) → ExchangeGathers expected e → ExchangeGathers (cond r.continues (expected ++ payload) []) (taken e target r payload)
unfolding taken
then_gathers target e r payload expected g = next_gathers e.login target e r payload expected g

run_shown : (target : LoginTarget) (challenge : Option Challenge) (texts before : List (List ℕ)) (cs : List Coming) (e : ExchangeValue) (expected : List ℕ)
    → ExchangeShown target challenge texts e → ExchangeGathers expected e → NoneOf target.authentication e.login e.chap.phase before
    → texts ≡ before ++ texts_from expected cs → ((t : List ℕ) → IsText (texts_from expected cs) t → IsText texts t) → ExchangeShown target challenge texts (exchanged target e cs)
run_shown target challenge texts before [] e expected shown g none all h = shown
run_shown target challenge texts before (c ∷ cs) e expected shown g none all h =
    run_shown target challenge texts (heard_with c.request.continues before (expected ++ c.text)) cs (taken e target c.request c.text) (cond c.request.continues (expected ++ c.text) [])
    (taken_shown target challenge texts e c.request c.text
    (heard_of e.login target.authentication e.chap.phase c.request texts before (texts_from (expected ++ c.text) cs) (texts_from [] cs) e.gathered expected c.text g
    (head_in c.request.continues texts (texts_from (expected ++ c.text) cs) (texts_from [] cs) (expected ++ c.text) h) none all)
    shown)
    (then_gathers target e c.request c.text expected g)
    (then_none target e c.request c.text expected before g none)
    (split_on c.request.continues texts before (expected ++ c.text) cs all)
    (rest_in c.request.continues texts (expected ++ c.text) cs h)

started_shown : (target : LoginTarget) (challenge : Option Challenge) (texts : List (List ℕ)) (group : ℕ) → ExchangeShown target challenge texts (started group challenge)
started_shown target challenge texts group = record {
  login = record { sound = tt; end = tt; fresh = refl };
  phase = unasked_shown target.authentication challenge texts [];
  same = refl;
}

started_none : (au : Authentication) → NoneBefore au phase.Unasked []
started_none authentication.None = tt
started_none (authentication.Chap access) = refl

pub begins : (group : ℕ) (target : LoginTarget) (challenge : Option Challenge) (cs : List Coming) (f : FullFeature) → (exchanged target (started group challenge) cs).login ≡ Ended (ends.FullFeature f)
    → IsLetIn target challenge (texts_of cs) f.admission f.session_type f.proved × AreInRange f.parameters
begins group target challenge cs f e =
    let last : ExchangeValue = exchanged target (started group challenge) cs in
    let shown : ExchangeShown target challenge (texts_of cs) last =
    run_shown target challenge (texts_of cs) [] cs (started group challenge) [] (started_shown target challenge (texts_of cs) group) refl
    (started_none target.authentication) refl (λ t some. some) in
    let sound : Shown target (texts_of cs) last.name f.admission f.session_type × AreInRange f.parameters = subst (IsSoundLogin (Shown target (texts_of cs) last.name)) e shown.login.sound in
    let end : IsAuthenticated target.authentication challenge last.name f.proved (texts_of cs) = subst (EndShown target.authentication challenge (texts_of cs) last.name) e shown.login.end in
    (record { name = last.name; entered = sound.0; authenticated = end }, sound.1)

-- ---- what is told

abbrev HasBegun : FullFeature → Login → Type 0
HasBegun f m = m ≡ Ended (ends.FullFeature f)

end_begun : (end : LoginEnd) (f : FullFeature) → end_progress end ≡ progress.Begins f → HasBegun f (Ended end)
end_begun (ends.FullFeature g) f h = let same : g ≡ f = cc in ap (λ (x : FullFeature). Ended (ends.FullFeature x)) same
end_begun (ends.Refused s) f h = absurd cc

turn_begun : (t : Turn) (e : ExchangeValue) (r : LoginRequest) (f : FullFeature) → turn_progress t ≡ progress.Begins f → HasBegun f (gone t e r).login
turn_begun (Refuses s) e r f h = absurd cc
turn_begun (Goes (Ended end)) e r f h = end_begun end f h
turn_begun (Goes (Open l)) e r f h = absurd cc
turn_begun (Stays l) e r f h = absurd cc

choice_begun : (b : Bool) (f : FullFeature) (p q : LoginProgress) (x y : ExchangeValue) → (p ≡ progress.Begins f → HasBegun f x.login) → (q ≡ progress.Begins f → HasBegun f y.login)
    → cond b p q ≡ progress.Begins f → HasBegun f (cond b x y).login
choice_begun true f p q x y h i e = h e
choice_begun false f p q x y h i e = i e

login_begun : (m : Login) (target : LoginTarget) (e : ExchangeValue) (r : LoginRequest) (payload : List ℕ) (f : FullFeature)
    → progress_at m (record e { login = m }) target r payload ≡ progress.Begins f → HasBegun f (taken_at m (record e { login = m }) target r payload).login
login_begun (Ended end) target e r payload f h = end_begun end f h
login_begun (Open l) target e r payload f h =
    let before : ExchangeValue = ready (record e { login = Open l }) r payload in
    choice_begun (is_out_of_turn (record e { login = Open l }) r payload) f (progress.Refused status.InitiatorError) (turn_progress (turn_in before target r))
    (refused_with (record e { login = Open l; last = Some r }) status.InitiatorError) (gone (turn_in before target r) (judged before target r) r)
    (λ g. absurd cc) (turn_begun (turn_in before target r) (judged before target r) r f) h

pub begun_where_told : (target : LoginTarget) (e : ExchangeValue) (r : LoginRequest) (payload : List ℕ) (f : FullFeature) → progress_of e target r payload ≡ progress.Begins f
    → (taken e target r payload).login ≡ Ended (ends.FullFeature f)
unfolding progress_of taken
begun_where_told target e r payload f h = login_begun e.login target e r payload f h
