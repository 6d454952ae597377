-- Login Requests taken off a stream, one after another.
use Rattle.std.proofs.Common.{◌≡◌, List, [], ◌∷◌, ◌++◌, drop, refl, sym, ap, subst, ◌∙◌, ℕ, Option, Result, Ok, Err, IfOk, OnOk}
use Rattle.std.proofs.lemmas.List.{drop-append-le}
use Rattle.iscsi_pdu.specs.declared.initiator_header.InitiatorHeader.{InitiatorHeader}
use Rattle.iscsi_pdu.specs.declared.initiator_header.InitiatorHeader.TheVariants as sent
use Rattle.iscsi_pdu.specs.declared.login_request.LoginRequest.{LoginRequest}
use Rattle.iscsi_pdu.specs.Pdus.{InitiatorPduValue}
use Rattle.iscsi_login.specs.ExchangeRuns.{exchanged}
use Rattle.iscsi_login.specs.Exchanges.{ExchangeValue, progress_of, taken}
use Rattle.iscsi_login.specs.Runs.{Coming}
use Rattle.iscsi_login.specs.declared.progress.LoginProgress.{LoginProgress}
use Rattle.iscsi_login.specs.declared.progress.LoginProgress.TheVariants as progress
use Rattle.iscsi_login.specs.declared.target.LoginTarget.{LoginTarget}
use Rattle.iscsi_login.proofs.Exchanged.{begun_where_told}
use Rattle.session.proofs.Read.{consumes_more, consumes_none}
use Rattle.iscsi_session.specs.LoggingIn.{Exchanges, HasReached, LogsIn, Requests, UnlessRefused, WhereBegins}
use Rattle.read_buffer.specs.Reading.{Filled}
use Rattle.iscsi_session.specs.Talking.{BeginsWith}
use Rattle.iscsi_session.proofs.Talked.{begins_before}

-- ---- one request

pub request_taken : {F : Type 0} (r : Result LoginProgress F) (target : LoginTarget) (e e' : ExchangeValue) (h : InitiatorHeader)
    (request : LoginRequest) (payload : List ℕ) → h ≡ sent.LoginRequest request
    → OnOk r (e' ≡ taken e target request payload)
    → IfOk r (λ p. UnlessRefused p ((q : LoginRequest) × (h ≡ sent.LoginRequest q) × (e' ≡ taken e target q payload)))
request_taken (Ok progress.Answered) target e e' h request payload is state = (request, is, state)
request_taken (Ok (progress.Begins f)) target e e' h request payload is state = (request, is, state)
request_taken (Ok (progress.Refused s)) target e e' h request payload is state = tt
request_taken (Err fault) target e e' h request payload is state = tt

pub request_begins : {F : Type 0} (r : Result LoginProgress F) (target : LoginTarget) (e e' : ExchangeValue) (request : LoginRequest)
    (payload : List ℕ) → IfOk r (λ p. p ≡ progress_of e target request payload)
    → OnOk r (e' ≡ taken e target request payload) → IfOk r (λ p. WhereBegins p (HasReached e'))
request_begins (Ok progress.Answered) target e e' request payload told state = tt
request_begins (Ok (progress.Begins f)) target e e' request payload told state =
    ap (λ (x : ExchangeValue). x.login) state ∙ begun_where_told target e request payload f (sym told)
request_begins (Ok (progress.Refused s)) target e e' request payload told state = tt
request_begins (Err fault) target e e' request payload told state = tt

-- ---- one after another

requests_append : (cs ds : List Coming) (bytes mid rest : List ℕ) → Requests cs bytes mid → Requests ds mid rest → Requests (cs ++ ds) bytes rest
requests_append [] ds bytes mid rest one two = subst (λ (xs : List ℕ). Requests ds xs rest) one two
requests_append (c ∷ cs) ds bytes mid rest one two = (one.0, one.1, one.2, one.3, one.4, requests_append cs ds (drop one.1 bytes) mid rest one.5 two)

exchanged_append : (target : LoginTarget) (e : ExchangeValue) (cs ds : List Coming)
    → exchanged target e (cs ++ ds) ≡ exchanged target (exchanged target e cs) ds
exchanged_append target e [] ds = refl
exchanged_append target e (c ∷ cs) ds = exchanged_append target (taken e target c.request c.text) cs ds

pub requests_before : (cs : List Coming) (bytes rest piece : List ℕ) → Requests cs bytes rest → Requests cs (bytes ++ piece) (rest ++ piece)
requests_before [] bytes rest piece so = ap (λ (xs : List ℕ). xs ++ piece) so
requests_before (c ∷ cs) bytes rest piece so =
    let here : BeginsWith bytes so.0 so.1 = so.2 in (
      so.0,
      so.1,
      begins_before bytes piece so.0 so.1 here,
      so.3,
      so.4,
      subst (λ (xs : List ℕ). Requests cs xs (rest ++ piece)) (sym (drop-append-le so.1 bytes piece here.whole))
          (requests_before cs (drop so.1 bytes) rest piece so.5),
    )

pub exchanges_none : (target : LoginTarget) (e : ExchangeValue) (bytes : List ℕ) → Exchanges target e e bytes bytes
exchanges_none target e bytes = record { comings = []; requests = refl; exchanged_is = refl }

exchanges_then : (target : LoginTarget) (e e1 e2 : ExchangeValue) (bytes mid rest : List ℕ) → Exchanges target e e1 bytes mid
    → Exchanges target e1 e2 mid rest → Exchanges target e e2 bytes rest
exchanges_then target e e1 e2 bytes mid rest one two = record {
  comings = one.comings ++ two.comings;
  requests = requests_append one.comings two.comings bytes mid rest one.requests two.requests;
  exchanged_is =
      two.exchanged_is ∙ ap (λ (x : ExchangeValue). exchanged target x two.comings) one.exchanged_is
      ∙ sym (exchanged_append target e one.comings two.comings);
}

-- one more
pub exchanges_more : (target : LoginTarget) (e e1 e2 : ExchangeValue) (bytes rest rest1 : List ℕ) (p : InitiatorPduValue) (size : ℕ)
    → Exchanges target e e1 bytes rest → BeginsWith rest p size → rest1 ≡ drop size rest
    → (q : LoginRequest) × (p.header ≡ sent.LoginRequest q) × (e2 ≡ taken e1 target q p.payload) → Exchanges target e e2 bytes rest1
exchanges_more target e e1 e2 bytes rest rest1 p size so here cut took =
    exchanges_then target e e1 e2 bytes rest rest1 so
    (record { comings = record { request = took.0; text = p.payload } ∷ []; requests = (p, size, here, took.1, refl, cut); exchanged_is = took.2 })

-- ---- as they are read

pub logs_none : (target : LoginTarget) (e : ExchangeValue) (left : Option (List ℕ)) (pending : List ℕ) → pending ≡ [] → LogsIn target e e left left pending
logs_none target e left pending none =
    record { read = []; consumed = consumes_none left; exchanges = record { comings = []; requests = none; exchanged_is = refl } }

pub logs_on : (target : LoginTarget) (e e1 e2 : ExchangeValue) (size : ℕ) (rest rest1 rest2 : List ℕ) (left left1 left2 : Option (List ℕ))
    → LogsIn target e e1 left left1 rest → Filled size rest rest1 left1 left2
    → Exchanges target e1 e2 rest1 rest2 → LogsIn target e e2 left left2 rest2
logs_on target e e1 e2 size rest rest1 rest2 left left1 left2 so got more = record {
  read = so.read ++ got.0;
  consumed = consumes_more left left1 left2 so.read got.0 so.consumed got.3;
  exchanges =
      exchanges_then target e e1 e2 (so.read ++ got.0) rest1 rest2
      (record {
        comings = so.exchanges.comings;
        requests =
            subst (λ (xs : List ℕ). Requests so.exchanges.comings (so.read ++ got.0) xs) (sym got.1)
            (requests_before so.exchanges.comings so.read rest got.0 so.exchanges.requests);
        exchanged_is = so.exchanges.exchanged_is;
      }) more;
}
