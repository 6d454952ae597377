-- Full feature is reached through a name that is let in, with parameters in their ranges.
use Rattle.std.proofs.Common.{◌≡◌, ℕ, ◌+◌, zero, suc, Bool, true, false, cond, List, [], ◌∷◌, length, Option, Some, None, Result, Ok, Err, refl, sym, subst, arith}
use Rattle.std.specs.Prelude.{Any}
use Rattle.iscsi_pdu.specs.declared.stage.Stage.{Stage}
use Rattle.iscsi_pdu.specs.declared.stage.Stage.TheVariants as stage
use Rattle.iscsi_pdu.specs.declared.login_request.LoginRequest.{LoginRequest}
use Rattle.iscsi_pdu.specs.declared.login_status.LoginStatus.{LoginStatus}
use Rattle.iscsi_keys.specs.Parameters.{AreInRange}
use Rattle.iscsi_keys.specs.Negotiations.{Offer, answered, negotiated}
use Rattle.iscsi_keys.specs.Texts.{ItemValue, End, Pair, Invalid, first_item}
use Rattle.iscsi_keys.specs.declared.key.Key.TheVariants as key
use Rattle.iscsi_keys.specs.declared.answer.KeyAnswer.{KeyAnswer}
use Rattle.iscsi_keys.specs.declared.fault.NegotiationFault.{NegotiationFault}
use Rattle.iscsi_keys.specs.declared.negotiation.Negotiation.{Negotiation}
use Rattle.iscsi_keys.proofs.Ranges.{all_stay, defaults_in_range}
use Rattle.iscsi_chap.specs.Accesses.{admitted}
use Rattle.iscsi_login.specs.Names.{declared, session_type_in}
use Rattle.iscsi_login.specs.Offers.{negotiated_within, negotiated_at, unless_ended}
use Rattle.iscsi_login.specs.Admissions.{entry_of, entry_if, entry_for, entry_as, unless_target_fault, target_fault, offered_by, offered_if, with_negotiation, says_the_same, names_free, admitted_by}
use Rattle.iscsi_login.specs.Logins.{stepped, unless_fault, request_fault, taken, moved_if, moved_to, open_at, begun}
use Rattle.iscsi_login.specs.Runs.{Coming, run, IsEntry, IsEntered}
use Rattle.iscsi_chap.specs.declared.access.Admission.{Admission}
use Rattle.iscsi_chap.specs.declared.session_type.SessionType.{SessionType}
use Rattle.iscsi_login.specs.declared.target.LoginTarget.{LoginTarget}
use Rattle.iscsi_login.specs.declared.admitted.Admitted.{Admitted}
use Rattle.iscsi_login.specs.declared.login.Login.{Login}
use Rattle.iscsi_login.specs.declared.login.Login.TheVariants.{Open, Ended}
use Rattle.iscsi_login.specs.declared.login.LoginEnd.{LoginEnd}
use Rattle.iscsi_login.specs.declared.login.LoginEnd.TheVariants as ends
use Rattle.iscsi_login.specs.declared.login.FullFeature.{FullFeature}

-- what was agreed, if the login goes on
abbrev AgreedInRange : Result Negotiation LoginStatus → Type 0
AgreedInRange (Ok n) = AreInRange n.parameters
AgreedInRange (Err fault) = Unit {0}

item_answered : (r : Result KeyAnswer NegotiationFault) (others : Result Negotiation LoginStatus) → AgreedInRange others → AgreedInRange (unless_ended r others)
item_answered (Ok a) others h = h
item_answered (Err f) others h = tt

item_stays : (behind : Negotiation → List ℕ → Result Negotiation LoginStatus) → ((m : Negotiation) (t : List ℕ) → AreInRange m.parameters → AgreedInRange (behind m t))
    → (n : Negotiation) (item : ItemValue) → AreInRange n.parameters → AgreedInRange (negotiated_at behind n item)
item_stays behind each n End h = h
item_stays behind each n (Invalid f) h = tt
item_stays behind each n (Pair name value rest) h =
    let offer : Offer = record { name = name; value = value } in
    let then : AreInRange (negotiated n name value).parameters = all_stay n (offer ∷ []) h in
    item_answered (answered n name value) (behind (negotiated n name value) rest) (each (negotiated n name value) rest then)

text_stays : (most : ℕ) (n : Negotiation) (text : List ℕ) → AreInRange n.parameters → AgreedInRange (negotiated_within most n text)
text_stays zero n text h = tt
text_stays (suc most) n text h = item_stays (negotiated_within most) (text_stays most) n (first_item text) h

-- who was let in is one for whom P holds, and what was agreed is in its ranges
abbrev pub IsSound : (Admission → SessionType → Type 0) → Admitted → Type 0
IsSound P a = P a.admission a.session_type × AreInRange a.negotiation.parameters

abbrev pub IsSoundIfOk : (Admission → SessionType → Type 0) → Result Admitted LoginStatus → Type 0
IsSoundIfOk P (Ok a) = IsSound P a
IsSoundIfOk P (Err fault) = Unit {0}

abbrev pub IsSoundIfSome : (Admission → SessionType → Type 0) → Option Admitted → Type 0
IsSoundIfSome P (Some a) = IsSound P a
IsSoundIfSome P None = Unit {0}

abbrev pub IsSoundEnd : (Admission → SessionType → Type 0) → LoginEnd → Type 0
IsSoundEnd P (ends.FullFeature f) = P f.admission f.session_type × AreInRange f.parameters
IsSoundEnd P (ends.Refused fault) = Unit {0}

abbrev pub IsSoundLogin : (Admission → SessionType → Type 0) → Login → Type 0
IsSoundLogin P (Open l) = IsSoundIfSome P l.admitted
IsSoundLogin P (Ended end) = IsSoundEnd P end

offered_sound : (P : Admission → SessionType → Type 0) (a : Admitted) (r : Result Negotiation LoginStatus) → P a.admission a.session_type → AgreedInRange r → IsSoundIfOk P (with_negotiation a r)
offered_sound P a (Ok n) p h = (p, h)
offered_sound P a (Err fault) p h = tt

pub text_sound : (P : Admission → SessionType → Type 0) (a : Admitted) (text : List ℕ) → IsSound P a → IsSoundIfOk P (offered_by a text)
text_sound P a text h = offered_sound P a (negotiated_within (length text + 1) a.negotiation text) h.0 (text_stays (length text + 1) a.negotiation text h.1)

at_target_sound : (P : Admission → SessionType → Type 0) (target : LoginTarget) (s : SessionType) (a : Admission) (fault : Option LoginStatus)
    → (fault ≡ None → P a s) → IsSoundIfOk P (unless_target_fault target s a fault)
at_target_sound P target s a (Some fault) each = tt
at_target_sound P target s a None each = (each refl, defaults_in_range)

admitted_sound : (P : Admission → SessionType → Type 0) (target : LoginTarget) (s : SessionType) (wanted : Option (List ℕ)) (o : Option Admission)
    → ((a : Admission) → o ≡ Some a → target_fault target s wanted ≡ None → P a s) → IsSoundIfOk P (entry_as target s wanted o)
admitted_sound P target s wanted None each = tt
admitted_sound P target s wanted (Some a) each = at_target_sound P target s a (target_fault target s wanted) (each a refl)

named_sound : (P : Admission → SessionType → Type 0) (target : LoginTarget) (s : SessionType) (wanted initiator : Option (List ℕ))
    → ((a : Admission) (name : List ℕ) → initiator ≡ Some name → admitted target.access name ≡ Some a → target_fault target s wanted ≡ None → P a s)
    → IsSoundIfOk P (entry_for target s wanted initiator)
named_sound P target s wanted None each = tt
named_sound P target s wanted (Some name) each = admitted_sound P target s wanted (admitted target.access name) (λ a. each a name refl)

typed_sound : (P : Admission → SessionType → Type 0) (target : LoginTarget) (o : Option SessionType) (wanted initiator : Option (List ℕ))
    → ((a : Admission) (s : SessionType) (name : List ℕ) → o ≡ Some s → initiator ≡ Some name → admitted target.access name ≡ Some a → target_fault target s wanted ≡ None → P a s)
    → IsSoundIfOk P (entry_if target o wanted initiator)
typed_sound P target None wanted initiator each = tt
typed_sound P target (Some s) wanted initiator each = named_sound P target s wanted initiator (λ a name. each a s name refl)

entry_sound : (P : Admission → SessionType → Type 0) (target : LoginTarget) (text : List ℕ) → ((a : Admission) (s : SessionType) → IsEntry target text a s → P a s)
    → IsSoundIfOk P (entry_of target text)
entry_sound P target text each =
    typed_sound P target (session_type_in (declared text key.SessionType)) (declared text key.TargetName) (declared text key.InitiatorName)
    (λ a s name t n l w. each a s (record { name = name; named = n; let_in = l; of_type = t; at_target = w }))

offered_if_sound : (P : Admission → SessionType → Type 0) (r : Result Admitted LoginStatus) (text : List ℕ) → IsSoundIfOk P r → IsSoundIfOk P (offered_if r text)
offered_if_sound P (Ok a) text h = text_sound P a text h
offered_if_sound P (Err fault) text h = tt

pub either_sound : (P : Admission → SessionType → Type 0) (b : Bool) (fault : LoginStatus) (r : Result Admitted LoginStatus) → IsSoundIfOk P r → IsSoundIfOk P (cond b r (Err fault))
either_sound P true fault r h = h
either_sound P false fault r h = tt

pub come_sound : (P : Admission → SessionType → Type 0) (o : Option Admitted) (target : LoginTarget) (text : List ℕ) → ((a : Admission) (s : SessionType) → IsEntry target text a s → P a s) → IsSoundIfSome P o
    → IsSoundIfOk P (admitted_by o target text)
come_sound P None target text each h = offered_if_sound P (entry_of target text) text (entry_sound P target text each)
come_sound P (Some a) target text each h = either_sound P (says_the_same target a text) _ (offered_by (names_free a) text) (text_sound P (names_free a) text h)

moved_to_sound : (P : Admission → SessionType → Type 0) (s : Stage) (group : ℕ) (r : LoginRequest) (a : Admitted) → IsSound P a → IsSoundLogin P (moved_to s group r a)
moved_to_sound P stage.FullFeaturePhase group r a h = h
moved_to_sound P stage.SecurityNegotiation group r a h = h
moved_to_sound P stage.LoginOperationalNegotiation group r a h = h
moved_to_sound P stage.Reserved group r a h = h

choice_sound : (P : Admission → SessionType → Type 0) (b : Bool) (l m : Login) → IsSoundLogin P l → IsSoundLogin P m → IsSoundLogin P (cond b l m)
choice_sound P true l m h i = h
choice_sound P false l m h i = i

pub moved_sound : (P : Admission → SessionType → Type 0) (group : ℕ) (r : LoginRequest) (a : Result Admitted LoginStatus) → IsSoundIfOk P a → IsSoundLogin P (moved_if group r a)
moved_sound P group r (Ok a) h =
    choice_sound P r.transit (moved_to r.next_stage group r a) (open_at group r r.current_stage (Some a)) (moved_to_sound P r.next_stage group r a h) h
moved_sound P group r (Err fault) h = tt

pub unless_sound : (P : Admission → SessionType → Type 0) (o : Option LoginStatus) (l : Login) → IsSoundLogin P l → IsSoundLogin P (unless_fault o l)
unless_sound P (Some fault) l h = tt
unless_sound P None l h = h

step_sound : (P : Admission → SessionType → Type 0) (l : Login) (target : LoginTarget) (r : LoginRequest) (text : List ℕ) → ((a : Admission) (s : SessionType) → IsEntry target text a s → P a s) → IsSoundLogin P l
    → IsSoundLogin P (stepped l target r text)
step_sound P (Ended end) target r text each h = h
step_sound P (Open l) target r text each h =
    unless_sound P (request_fault l r) (taken l target r text)
    (choice_sound P r.continues (open_at l.portal_group r r.current_stage l.admitted) (moved_if l.portal_group r (admitted_by l.admitted target text)) h
    (moved_sound P l.portal_group r (admitted_by l.admitted target text) (come_sound P l.admitted target text each h)))

here : (P : Coming → Type 0) (c : Coming) (cs : List Coming) → P c → Any P (c ∷ cs)
here P c cs p = (0, c, omega arith, refl, p)

behind : (P : Coming → Type 0) (c : Coming) (cs : List Coming) → Any P cs → Any P (c ∷ cs)
behind P c cs (k, x, lt, is, p) = (suc k, x, omega arith, is, p)

run_sound : (P : Admission → SessionType → Type 0) (target : LoginTarget) (l : Login) (cs : List Coming)
    → ((a : Admission) (s : SessionType) (text : List ℕ) → Any (λ (c : Coming). c.text ≡ text) cs → IsEntry target text a s → P a s)
    → IsSoundLogin P l → IsSoundLogin P (run target l cs)
run_sound P target l [] each h = h
run_sound P target l (c ∷ cs) each h =
    run_sound P target (stepped l target c.request c.text) cs
    (λ a s text some. each a s text (behind (λ (d : Coming). d.text ≡ text) c cs some))
    (step_sound P l target c.request c.text (λ a s. each a s c.text (here (λ (d : Coming). d.text ≡ c.text) c cs refl)) h)

of_text : (target : LoginTarget) (a : Admission) (s : SessionType) (text : List ℕ) (cs : List Coming) → Any (λ (c : Coming). c.text ≡ text) cs → IsEntry target text a s
    → IsEntered target cs a s
of_text target a s text cs (k, x, lt, is, same) entry = (k, x, lt, is, subst (λ (t : List ℕ). IsEntry target t a s) (sym same) entry)

all_sound : (group : ℕ) (target : LoginTarget) (cs : List Coming) → IsSoundLogin (IsEntered target cs) (run target (begun group) cs)
all_sound group target cs = run_sound (IsEntered target cs) target (begun group) cs (λ a s text some entry. of_text target a s text cs some entry) tt

pub reached : (group : ℕ) (target : LoginTarget) (cs : List Coming) (f : FullFeature) → run target (begun group) cs ≡ Ended (ends.FullFeature f)
    → IsEntered target cs f.admission f.session_type × AreInRange f.parameters
reached group target cs f e = subst (IsSoundLogin (IsEntered target cs)) e (all_sound group target cs)
