-- The frames of a session, and where it stops.
use Rattle.std.proofs.Common.{◌≡◌, ℕ, zero, suc, ◌+◌, ◌<◌, ◌≤◌, List, [], ◌∷◌, ◌++◌, map, length, take, drop, get_or, refl, sym, ap, subst, ◌∙◌}
use Rattle.std.proofs.Common.{Result, Ok, Err, arith}
use Rattle.std.specs.Prelude.{All, OnOk, IfErr}
use Rattle.std.proofs.lemmas.List.{take_more, take_all, get_or-map, length-map}
use Rattle.scsi_cdb.specs.declared.profile.Profile.{Profile}
use Rattle.scsi_nexus.specs.declared.nexus.Nexus.{Nexus}
use Rattle.frames.specs.Frames.{FrameValue, Login, Logout}
use Rattle.script_lines.specs.declared.client_request.ClientRequest.{ClientRequest}
use Rattle.script_lines.specs.Requests.{request_value, IsWithinLimits}
use Rattle.script_lines.specs.Script.{request_values}
use Rattle.output_lines.specs.declared.explained.Explanations.{Explanations}
use Rattle.client_session.specs.declared.client_session_fault.ClientSessionFault.{ClientSessionFault}
use Rattle.client_session.specs.Talking.{frame_of, frames_of, Streams, Talks}
use Rattle.client_session.specs.Waiting.{Exchanges, Stops, Breaks}
use Rattle.client_session.proofs.Talked.{talks_none, talks_on}

-- the frames of requests
abbrev pub asks : List ClientRequest → List FrameValue
asks requests = map frame_of (request_values requests)

asks_on : (requests : List ClientRequest) (request : ClientRequest) → asks requests ++ frame_of (request_value request) ∷ [] ≡ asks (requests ++ request ∷ [])
asks_on [] request = refl
asks_on (r ∷ requests) request = ap (λ (fs : List FrameValue). frame_of (request_value r) ∷ fs) (asks_on requests request)

-- one frame more of the first ones
asks_next : (requests : List ClientRequest) (i : ℕ) (request : ClientRequest) → i < length requests → request ≡ get_or requests i request
    → asks (take i requests) ++ frame_of (request_value request) ∷ [] ≡ asks (take (i + 1) requests)
asks_next requests i request lt is =
    asks_on (take i requests) request
    ∙ ap (λ (r : ClientRequest). asks (take i requests ++ r ∷ [])) is
    ∙ ap asks (sym (take_more requests i request lt))

-- the frames before one, that one, and those behind it
asks_split : (requests : List ClientRequest) (i : ℕ) (request : ClientRequest) → i < length requests → request ≡ get_or requests i request
    → asks requests ++ Logout ∷ [] ≡ asks (take i requests) ++ frame_of (request_value request) ∷ (asks (drop (suc i) requests) ++ Logout ∷ [])
asks_split [] i request lt is = absurd (omega arith)
asks_split (r ∷ requests) zero request lt is = ap (λ (x : ClientRequest). frame_of (request_value x) ∷ (asks requests ++ Logout ∷ [])) (sym is)
asks_split (r ∷ requests) (suc i) request lt is =
    ap (λ (fs : List FrameValue). frame_of (request_value r) ∷ fs) (asks_split requests i request (omega arith) is)

-- LOGIN is answered
pub talks_first : (pr : Profile) (x : Explanations) (nexus : Nexus) (pending rest : List ℕ) (before after : Streams) → pending ≡ []
    → Exchanges pr x (Login nexus) pending rest before after → Talks pr x (Login nexus ∷ []) before after rest
talks_first pr x nexus pending rest before after none one =
    talks_on pr x [] (Login nexus) before before after [] rest (talks_none pr x before)
    (subst (λ (p : List ℕ). Exchanges pr x (Login nexus) p rest before after) none one)

-- one request more
pub talks_next : (pr : Profile) (x : Explanations) (nexus : Nexus) (requests : List ClientRequest) (i : ℕ) (request : ClientRequest) (f : FrameValue)
    (before middle after : Streams) (rest rest' : List ℕ)
    → i < length requests → request ≡ get_or requests i request → f ≡ frame_of (request_value request)
    → Talks pr x (Login nexus ∷ asks (take i requests)) before middle rest → Exchanges pr x f rest rest' middle after
    → Talks pr x (Login nexus ∷ asks (take (i + 1) requests)) before after rest'
talks_next pr x nexus requests i request f before middle after rest rest' lt is framed so one =
    subst (λ (fs : List FrameValue). Talks pr x (Login nexus ∷ fs) before after rest') (asks_next requests i request lt is)
    (talks_on pr x (Login nexus ∷ asks (take i requests)) (frame_of (request_value request)) before middle after rest rest' so
    (subst (λ (g : FrameValue). Exchanges pr x g rest rest' middle after) framed one))

-- LOGIN isn't answered
pub breaks_first : (pr : Profile) (x : Explanations) (nexus : Nexus) (requests : List ClientRequest) (fault : ClientSessionFault) (pending : List ℕ)
    (before after : Streams) → pending ≡ []
    → Stops pr fault (Login nexus) pending before after → Breaks pr x nexus (request_values requests) fault before after
breaks_first pr x nexus requests fault pending before after none stop = record {
  done = [];
  next = Login nexus;
  others = asks requests ++ Logout ∷ [];
  rest = [];
  middle = before;
  frames = refl;
  talked = talks_none pr x before;
  stopped = subst (λ (p : List ℕ). Stops pr fault (Login nexus) p before after) none stop;
}

-- a request isn't
pub breaks_next : (pr : Profile) (x : Explanations) (nexus : Nexus) (requests : List ClientRequest) (i : ℕ) (request : ClientRequest) (f : FrameValue)
    (fault : ClientSessionFault) (before middle after : Streams) (rest : List ℕ)
    → i < length requests → request ≡ get_or requests i request → f ≡ frame_of (request_value request)
    → Talks pr x (Login nexus ∷ asks (take i requests)) before middle rest → Stops pr fault f rest middle after
    → Breaks pr x nexus (request_values requests) fault before after
breaks_next pr x nexus requests i request f fault before middle after rest lt is framed so stop = record {
  done = Login nexus ∷ asks (take i requests);
  next = frame_of (request_value request);
  others = asks (drop (suc i) requests) ++ Logout ∷ [];
  rest = rest;
  middle = middle;
  frames = ap (λ (fs : List FrameValue). Login nexus ∷ fs) (asks_split requests i request lt is);
  talked = so;
  stopped = subst (λ (g : FrameValue). Stops pr fault g rest middle after) framed stop;
}

-- LOGOUT isn't
pub breaks_last : (pr : Profile) (x : Explanations) (nexus : Nexus) (requests : List ClientRequest) (fault : ClientSessionFault)
    (before middle after : Streams) (rest : List ℕ) → Talks pr x (Login nexus ∷ asks requests) before middle rest
    → Stops pr fault Logout rest middle after → Breaks pr x nexus (request_values requests) fault before after
breaks_last pr x nexus requests fault before middle after rest so stop = record {
  done = Login nexus ∷ asks requests;
  next = Logout;
  others = [];
  rest = rest;
  middle = middle;
  frames = refl;
  talked = so;
  stopped = stop;
}

-- LOGOUT is answered
pub talks_last : (pr : Profile) (x : Explanations) (nexus : Nexus) (requests : List ClientRequest) (before middle after : Streams) (rest rest' : List ℕ)
    → Talks pr x (Login nexus ∷ asks requests) before middle rest → Exchanges pr x Logout rest rest' middle after
    → Talks pr x (frames_of nexus (request_values requests)) before after rest'
talks_last pr x nexus requests before middle after rest rest' so one =
    talks_on pr x (Login nexus ∷ asks requests) Logout before middle after rest rest' so one

-- all requests were sent
pub talks_all : (pr : Profile) (x : Explanations) (nexus : Nexus) (requests : List ClientRequest) (i : ℕ) (before after : Streams) (rest : List ℕ)
    → length requests ≤ i → Talks pr x (Login nexus ∷ asks (take i requests)) before after rest
    → Talks pr x (Login nexus ∷ asks requests) before after rest
talks_all pr x nexus requests i before after rest end so =
    subst (λ (rs : List ClientRequest). Talks pr x (Login nexus ∷ asks rs) before after rest) (take_all i requests end) so

pub on_ok : {X E : Type 0} (r : Result X E) (P Q : Type 0) → (P → Q) → OnOk r P → OnOk r Q
on_ok (Ok x) P Q f h = f h
on_ok (Err e) P Q f h = tt

pub if_err : {X E : Type 0} (r : Result X E) (P Q : E → Type 0) → ((e : E) → P e → Q e) → IfErr r P → IfErr r Q
if_err (Ok x) P Q f h = tt
if_err (Err e) P Q f h = f e h

-- the requests of a script, each within the limits
pub each_within : (pr : Profile) (requests : List ClientRequest) → All (IsWithinLimits pr) (request_values requests)
    → All (λ (r : ClientRequest). IsWithinLimits pr (request_value r)) requests
each_within pr requests h k d lt =
    subst (IsWithinLimits pr) (get_or-map request_value requests k d (request_value d) lt)
    (h k (request_value d) (omega (arith, lt, length-map requests request_value)))
