-- A login, what came behind it, and the loss.
use Rattle.std.proofs.Common.{◌≡◌, ℕ, Bool, true, List, [], ◌++◌, ap, ◌∙◌, refl, sym, subst, append_assoc, append-nil, Option, Result, Ok, Err}
use Rattle.std.proofs.Common.{OnOk, inl, inr}
use Rattle.std.specs.Io.KnownBytes.{Appends}
use Rattle.scsi_nexus.specs.declared.nexus.Nexus.{Nexus}
use Rattle.logical_unit.specs.Answers.{DoneValue}
use Rattle.iscsi_pdu.specs.Pdus.{TargetPduValue}
use Rattle.iscsi_answers.specs.Written.{bytes_of_all}
use Rattle.iscsi_tasks.specs.Next.{next_of}
use Rattle.iscsi_tasks.specs.declared.next_task.NextTask.TheVariants.{Idle}
use Rattle.iscsi_tasks.specs.Values.{TasksValue}
use Rattle.tickets.specs.declared.ticket.ReplyTicket.{ReplyTicket}
use Rattle.tickets.specs.declared.ticket.Outcome.{Outcome}
use Rattle.session.specs.Answering.{ComesByCalls}
use Rattle.session.proofs.Read.{consumes_more}
use Rattle.iscsi_login.specs.Exchanges.{ExchangeValue, started}
use Rattle.iscsi_chap.specs.declared.challenge.Challenge.{Challenge}
use Rattle.iscsi_login.specs.declared.login.FullFeature.{FullFeature}
use Rattle.iscsi_chap.specs.declared.session_type.SessionType.TheVariants.{Normal}
use Rattle.iscsi_login.specs.declared.target.LoginTarget.{LoginTarget}
use Rattle.frames.specs.Limits.{command_data_limit}
use Rattle.iscsi_tasks.proofs.OwnData.{each_has_just}
use Rattle.iscsi_session.specs.declared.fault.IscsiEnd.{IscsiEnd}
use Rattle.iscsi_session.specs.declared.fault.IscsiFault.{IscsiFault}
use Rattle.iscsi_session.specs.Ends.{EndFits}
use Rattle.iscsi_session.specs.Leaving.{IsLostUnless}
use Rattle.iscsi_session.specs.LoggingIn.{HasReached, LogsIn, nexus_of}
use Rattle.iscsi_session.specs.Saying.{normal_world}
use Rattle.iscsi_session.specs.Serving.{Holds, IsServed, Serves, ServesBehind, WritesLast, first_moment, first_tasks}
use Rattle.iscsi_session.specs.Talking.{Converses, Moment, Writes, pdus_of}
use Rattle.iscsi_session.specs.Worlds.{World}
use Rattle.iscsi_session.specs.Handing.{Hands, brought_in, settlements}
use Rattle.iscsi_session.proofs.Handed.{talks_hands}
use Rattle.iscsi_session.proofs.LoggedIn.{requests_before}
use Rattle.iscsi_session.proofs.Talked.{appends_more}

pub converses_calls : {S : Type 0} {resets ends : ℕ → Type 0}
    {settles : ReplyTicket → Outcome → Type 0} (notes : S → DoneValue → S → Type 0) (waits : DoneValue → Option ReplyTicket → Type 0) (count : S → ℕ) (n : Nexus) (a b : Moment S)
    (rest : List ℕ) (left left' : Option (List ℕ)) (said : List TargetPduValue)
    → Converses (normal_world notes waits count n resets ends settles) 1 a left left' said b rest → ComesByCalls notes n a.service b.service
converses_calls {S} {resets = resets} {ends = ends} {settles = settles} notes waits count n a b rest left left' said so =
    let answers = so.2 in
    let hands : Hands notes waits n a.tasks a.service (brought_in answers.events) (settlements answers.events) b.tasks b.service =
    talks_hands notes waits count n resets ends settles answers.events a.tasks b.tasks a.service b.service said answers.talks in (hands.calls, hands.made)

abbrev is_served : {S : Type 0} {others : Nexus → Type 0} {resets ends : ℕ → Type 0}
    {settles : ReplyTicket → Outcome → Type 0} (notes : S → DoneValue → S → Type 0) (waits : DoneValue → Option ReplyTicket → Type 0) (count : S → ℕ) (target : LoginTarget)
    (challenge : Option Challenge) (port : ℕ) (begun : FullFeature) (e : ExchangeValue) (s t : S) (pending : List ℕ)
    (left left1 left2 : Option (List ℕ)) (r : Result IscsiEnd IscsiFault) (said : List TargetPduValue) (all : Bool)
    → LogsIn target (started port challenge) e left left1 pending → HasReached e begun
    → Holds notes waits count others resets ends settles port begun s pending left1 left2 r said all t
    → IsServed notes waits count others resets ends settles target challenge port s left left2 r said all t
is_served {S} {others = others} {resets = resets} {ends = ends} {settles = settles} notes waits count target challenge port begun e s t pending left left1 left2 r
    said all login reached held =
    let behind = held.converses in
    let answers = behind.2 in
    let handed = talks_hands notes waits count (nexus_of port begun) resets ends settles answers.events (first_tasks begun) held.last.tasks s held.last.service said
    answers.talks in record {
      begun = begun;
      read = login.read ++ behind.0;
      comings = login.exchanges.comings;
      stream = pending ++ behind.0;
      events = answers.events;
      ended = held.last.tasks;
      rest = held.rest;
      before_loss = held.last.service;
      consumed = consumes_more left left1 left2 login.read behind.0 login.consumed behind.1;
      requests = requests_before login.exchanges.comings login.read pending behind.0 login.exchanges.requests;
      reached = ap (λ (x : ExchangeValue). x.login) (sym login.exchanges.exchanged_is) ∙ reached;
      normal = held.normal;
      takes = answers.takes;
      so = answers.so;
      asked = answers.asked;
      talks = answers.talks;
      hands = handed;
      its_own = each_has_just begun.parameters (command_data_limit begun.profile) begun.cmd_sn handed.acts;
      lost = held.lost;
      ends_so = held.ends_so;
    }

-- what came behind a login, and the loss
abbrev pub holds : {S : Type 0} {others : Nexus → Type 0} {resets ends : ℕ → Type 0}
    {settles : ReplyTicket → Outcome → Type 0} (notes : S → DoneValue → S → Type 0) (waits : DoneValue → Option ReplyTicket → Type 0) (count : S → ℕ) (port : ℕ) (begun : FullFeature)
    (n : Nexus) (last : Moment S) (s s1 before t : S) (pending rest : List ℕ) (left left' : Option (List ℕ))
    (r : Result IscsiEnd IscsiFault) (said : List TargetPduValue) (all : Bool) → begun.session_type ≡ Normal → n ≡ nexus_of port begun → s1 ≡ s
    → (talks : Converses (normal_world notes waits count n resets ends settles) 1 (first_moment begun s1 pending) left left' said last rest)
    → last.service ≡ before → IsLostUnless notes (others n) n (count before) before t all → EndFits r (pdus_of talks.2.events) last.tasks rest left'
    → Holds notes waits count others resets ends settles port begun s pending left left' r said all t
holds {S} {others = others} {resets = resets} {ends = ends} {settles = settles} notes waits count port begun n last s s1 before t pending rest left left' r said
    all type is library talks served lost fits =
    let named : (so : Converses (normal_world notes waits count (nexus_of port begun) resets ends settles) 1 (first_moment begun s1 pending) left left' said last rest)
    × EndFits r (pdus_of so.2.events) last.tasks rest left' =
    subst (λ (x : Nexus). (so : Converses (normal_world notes waits count x resets ends settles) 1 (first_moment begun s1 pending) left left' said last rest)
    × EndFits r (pdus_of so.2.events) last.tasks rest left') is (talks, fits) in
    let moved : (so : Converses (normal_world notes waits count (nexus_of port begun) resets ends settles) 1 (first_moment begun s pending) left left' said last rest)
    × EndFits r (pdus_of so.2.events) last.tasks rest left' =
    subst (λ (x : S). (so : Converses (normal_world notes waits count (nexus_of port begun) resets ends settles) 1 (first_moment begun x pending) left left' said last
    rest) × EndFits r (pdus_of so.2.events) last.tasks rest left') library named in record {
      normal = type;
      last = last;
      rest = rest;
      converses = moved.0;
      ends_so = moved.1;
      lost =
          subst (λ (x : S). IsLostUnless notes (others (nexus_of port begun)) (nexus_of port begun) (count x) x t all) (sym served)
          (subst (λ (x : Nexus). IsLostUnless notes (others x) x (count before) before t all) is lost);
    }

-- what waited when a session began, and what was said, was written
all_said : {A F : Type 0} (r : Result A F) (k : TasksValue) (v v' : Option (List ℕ)) (out : List ℕ) (said : List TargetPduValue)
    → OnOk r (Writes v v' out [] said) → OnOk r (next_of k ≡ Idle) → OnOk r ((next_of k ≡ Idle) × WritesLast v v' said)
all_said (Ok value) k v v' out said wrote idle =
    (idle, (out, subst (λ (xs : List ℕ). Appends v v' xs) (sym (append-nil wrote.0) ∙ wrote.2) wrote.1))
all_said (Err fault) k v v' out said wrote idle = tt

-- a session that has begun
pub has_begun : {S : Type 0} (w : World S) (begun : FullFeature) (k : TasksValue) (s : S) (pending out : List ℕ) (b : Moment S)
    (left left' v v' : Option (List ℕ)) (r : Result IscsiEnd IscsiFault) → k ≡ first_tasks begun
    → (said : List TargetPduValue) × (rest : List ℕ)
    × (all : Converses w 1 (record { tasks = k; service = s; pending = pending; out = out }) left left' said b rest)
    × OnOk r (Writes v v' out [] said) × EndFits r (pdus_of all.2.events) b.tasks rest left'
    → OnOk r (next_of b.tasks ≡ Idle)
    → (said : List TargetPduValue) × (ended : Moment S) × (rest : List ℕ)
    × (all : Converses w 1 (first_moment begun s pending) left left' said ended rest) × (ended.service ≡ b.service)
    × OnOk r ((next_of ended.tasks ≡ Idle) × WritesLast v v' said) × EndFits r (pdus_of all.2.events) ended.tasks rest left'
has_begun {S} w begun k s pending out b left left' v v' r first so idle =
    let moved : (all : Converses w 1 (first_moment begun s pending) left left' so.0 b so.1) × EndFits r (pdus_of all.2.events) b.tasks so.1 left' =
    subst (λ (x : TasksValue). (all : Converses w 1 (record { tasks = x; service = s; pending = pending; out = out }) left left' so.0 b so.1)
    × EndFits r (pdus_of all.2.events) b.tasks so.1 left') first (so.2, so.4) in
    (so.0, b, so.1, moved.0, refl, all_said r b.tasks v v' out so.0 so.3 idle, moved.1)

writes_last : (w w1 w2 : Option (List ℕ)) (said : List TargetPduValue) (told : List ℕ) → Appends w w1 told → WritesLast w1 w2 said
    → WritesLast w w2 said
writes_last w w1 w2 said told one two = (
  told ++ two.0,
  subst (λ (xs : List ℕ). Appends w w2 xs) (sym (append_assoc told two.0 (bytes_of_all said)))
      (appends_more w w1 w2 told (two.0 ++ bytes_of_all said) one two.1),
)

all_written : {A F : Type 0} (r : Result A F) (w w1 w2 : Option (List ℕ)) (said : List TargetPduValue) (told : List ℕ) (all : Bool) (k : TasksValue)
    → Appends w w1 told → OnOk r ((all ≡ true) × (next_of k ≡ Idle) × WritesLast w1 w2 said) → OnOk r ((all ≡ true) × (next_of k ≡ Idle) × WritesLast w w2 said)
all_written (Ok value) w w1 w2 said told all k one two = (two.0, two.1, writes_last w w1 w2 said told one two.2)
all_written (Err fault) w w1 w2 said told all k one two = tt

pub serves : {S : Type 0} {others : Nexus → Type 0} {resets ends : ℕ → Type 0}
    {settles : ReplyTicket → Outcome → Type 0} (notes : S → DoneValue → S → Type 0) (waits : DoneValue → Option ReplyTicket → Type 0) (count : S → ℕ) (target : LoginTarget)
    (challenge : Option Challenge) (port : ℕ) (begun : FullFeature) (e0 e : ExchangeValue) (s t : S) (pending : List ℕ)
    (left left1 left2 w w1 w2 : Option (List ℕ)) (r : Result IscsiEnd IscsiFault) → e0 ≡ started port challenge → LogsIn target e0 e left left1 pending
    → HasReached e begun → (told : List ℕ) × Appends w w1 told
    → ServesBehind notes waits count others resets ends settles port begun s pending left1 left2 w1 w2 r t
    → Serves notes waits count others resets ends settles target challenge port s left left2 w w2 r t
unfolding Serves
serves notes waits count target challenge port begun e0 e s t pending left left1 left2 w w1 w2 r start login reached told (inl same) = inl same
serves {S} notes waits count target challenge port begun e0 e s t pending left left1 left2 w w1 w2 r start login reached told (inr held) = inr (
  held.0,
  held.1,
  is_served notes waits count target challenge port begun e s t pending left left1 left2 r held.0 held.1
      (subst (λ (x : ExchangeValue). LogsIn target x e left left1 pending) start login) reached held.2,
  all_written r w w1 w2 held.0 told.0 held.1 held.2.last.tasks told.1 held.3,
)
