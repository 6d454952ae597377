-- A whole session. `notes s d t` says that a call with the answer d makes t of the service s.
use Rattle.std.specs.Prelude.{◌≡◌, ◌⊎◌, ◌≤◌, ℕ, Bool, true, List, [], ◌++◌, All, Option, Result, OnOk}
use Rattle.std.specs.Io.KnownBytes.{Consumes, Appends}
use Rattle.scsi_nexus.specs.declared.nexus.Nexus.{Nexus}
use Rattle.logical_unit.specs.Answers.{DoneValue}
use Rattle.frames.specs.Limits.{command_data_limit}
use Rattle.iscsi_pdu.specs.Pdus.{TargetPduValue}
use Rattle.iscsi_login.specs.ExchangeRuns.{exchanged}
use Rattle.iscsi_login.specs.Exchanges.{started}
use Rattle.iscsi_login.specs.Runs.{Coming}
use Rattle.iscsi_chap.specs.declared.challenge.Challenge.{Challenge}
use Rattle.iscsi_login.specs.declared.login.FullFeature.{FullFeature}
use Rattle.iscsi_chap.specs.declared.session_type.SessionType.TheVariants.{Normal}
use Rattle.iscsi_login.specs.declared.target.LoginTarget.{LoginTarget}
use Rattle.iscsi_answers.specs.Written.{bytes_of_all}
use Rattle.iscsi_tasks.specs.Next.{next_of}
use Rattle.iscsi_tasks.specs.OwnData.{EachHasJust}
use Rattle.iscsi_tasks.specs.Values.{TasksValue, begun_tasks}
use Rattle.iscsi_tasks.specs.declared.next_task.NextTask.TheVariants.{Idle}
use Rattle.tickets.specs.declared.ticket.ReplyTicket.{ReplyTicket}
use Rattle.tickets.specs.declared.ticket.Outcome.{Outcome}
use Rattle.iscsi_session.specs.declared.fault.IscsiEnd.{IscsiEnd}
use Rattle.iscsi_session.specs.declared.fault.IscsiFault.{IscsiFault}
use Rattle.iscsi_session.specs.Ends.{EndFits}
use Rattle.iscsi_session.specs.Leaving.{IsLostUnless}
use Rattle.iscsi_session.specs.Handing.{Hands, brought_in, settlements}
use Rattle.iscsi_session.specs.LoggingIn.{HasReached, Requests, nexus_of}
use Rattle.iscsi_session.specs.Saying.{normal_world}
use Rattle.iscsi_session.specs.Talking.{Converses, Event, IsSo, Moment, Takes, Talks, leave_requests, pdus_of}

-- the tasks of a session that a login has begun, whose units take as much data of a command as a COMMAND frame of the profile has room for
abbrev pub first_tasks : FullFeature → TasksValue
first_tasks begun = begun_tasks begun.parameters (command_data_limit begun.profile) begun.cmd_sn

-- what is said behind the login is what is written behind it
abbrev pub WritesLast : (written written' : Option (List ℕ)) → (said : List TargetPduValue) → Type 0
WritesLast written written' said = (login : List ℕ) × Appends written written' (login ++ bytes_of_all said)

-- where a login leaves a session, nothing said behind it yet
abbrev pub first_moment : {S : Type 0} → FullFeature → S → (pending : List ℕ) → Moment S
first_moment begun s pending = record { tasks = first_tasks begun; service = s; pending = pending; out = [] }

-- a normal session from the last request of its login on: PDUs, and then the nexus is lost at every unit, once, unless another session of it goes
-- on; why it ended fits what is left
pub record Holds {S : Type 0} (notes : S → DoneValue → S → Type 0) (waits : DoneValue → Option ReplyTicket → Type 0) (count : S → ℕ) (others : Nexus → Type 0) (resets ends : ℕ → Type 0) (settles : ReplyTicket → Outcome → Type 0) (port : ℕ)
    (begun : FullFeature) (s : S) (pending : List ℕ) (left left' : Option (List ℕ)) (result : Result IscsiEnd IscsiFault) (said : List TargetPduValue)
    (all : Bool) (t : S) : Type 0 where
  pub normal : begun.session_type ≡ Normal
  pub last : Moment S
  pub rest : List ℕ
  pub converses :
      Converses (normal_world notes waits count (nexus_of port begun) resets ends settles) 1 (first_moment begun s pending) left left' said last rest
  pub lost : IsLostUnless notes (others (nexus_of port begun)) (nexus_of port begun) (count last.service) last.service t all
  pub ends_so : EndFits result (pdus_of converses.2.events) last.tasks rest left'

-- that, or nothing at the service. Where it ends without a fault nothing is left to be done, all that was said is written, and no loss of the
-- nexus was BUSY
abbrev pub ServesBehind : {S : Type 0} → (S → DoneValue → S → Type 0) → (DoneValue → Option ReplyTicket → Type 0) → (count : S → ℕ) → (others : Nexus → Type 0) → (resets ends : ℕ → Type 0) → (settles : ReplyTicket → Outcome → Type 0) → (port : ℕ)
    → FullFeature → S → (pending : List ℕ) → (left left' written written' : Option (List ℕ)) → Result IscsiEnd IscsiFault → S → Type 0
ServesBehind notes waits count others resets ends settles port begun s pending left left' written written' result t =
    (t ≡ s) ⊎ ((said : List TargetPduValue) × (all : Bool)
    × (held : Holds notes waits count others resets ends settles port begun s pending left left' result said all t)
    × OnOk result ((all ≡ true) × (next_of held.last.tasks ≡ Idle) × WritesLast written written' said))

-- a normal session: what was read is a login, by which full feature is reached, and then PDUs, and perhaps part of another. To each of these happens
-- what its tasks say, one after another; the commands that are handed to units are those that the tasks execute and whose LUN is a unit's number, in
-- that order, each once and with the data that they have for it, all under the nexus that the login was let in as, and nothing but the PDUs has
-- brought the tasks commands and data; each command that the tasks execute has just the data that came for it; a logout is asked for once at most;
-- at last the nexus is lost at every unit, once, unless another session of it goes on; and why the session ended fits what is left of its stream
pub record IsServed {S : Type 0} (notes : S → DoneValue → S → Type 0) (waits : DoneValue → Option ReplyTicket → Type 0) (count : S → ℕ) (others : Nexus → Type 0) (resets ends : ℕ → Type 0) (settles : ReplyTicket → Outcome → Type 0) (target : LoginTarget)
    (challenge : Option Challenge) (port : ℕ) (s : S) (left left' : Option (List ℕ)) (result : Result IscsiEnd IscsiFault)
    (said : List TargetPduValue) (all : Bool) (t : S) : Type 0 where
  pub begun : FullFeature
  pub read : List ℕ
  pub comings : List Coming
  pub stream : List ℕ
  pub events : List Event
  pub ended : TasksValue
  pub rest : List ℕ
  pub before_loss : S
  pub consumed : Consumes left left' read
  pub requests : Requests comings read stream
  pub reached : HasReached (exchanged target (started port challenge) comings) begun
  pub normal : begun.session_type ≡ Normal
  pub takes : Takes stream (pdus_of events) rest
  pub so : All (IsSo resets ends settles) events
  pub asked : leave_requests events ≤ 1
  pub talks : Talks (normal_world notes waits count (nexus_of port begun) resets ends settles) events (first_tasks begun) s said ended before_loss
  pub hands : Hands notes waits (nexus_of port begun) (first_tasks begun) s (brought_in events) (settlements events) ended before_loss
  pub its_own : EachHasJust (first_tasks begun) hands.acts
  pub lost : IsLostUnless notes (others (nexus_of port begun)) (nexus_of port begun) (count before_loss) before_loss t all
  pub ends_so : EndFits result (pdus_of events) ended rest left'

-- that, or a connection that does nothing at the service: one that isn't let in, or a discovery session. Where it ends without a fault nothing
-- is left to be done, all that was said is written, and no loss of the nexus was BUSY
unfoldable pub Serves : {S : Type 0} → (S → DoneValue → S → Type 0) → (DoneValue → Option ReplyTicket → Type 0) → (count : S → ℕ) → (others : Nexus → Type 0) → (resets ends : ℕ → Type 0) → (settles : ReplyTicket → Outcome → Type 0) → LoginTarget
    → Option Challenge → (port : ℕ) → S → (left left' written written' : Option (List ℕ)) → Result IscsiEnd IscsiFault → S → Type 0
Serves notes waits count others resets ends settles target challenge port s left left' written written' result t =
    (t ≡ s) ⊎ ((said : List TargetPduValue) × (all : Bool)
    × (served : IsServed notes waits count others resets ends settles target challenge port s left left' result said all t)
    × OnOk result ((all ≡ true) × (next_of served.ended ≡ Idle) × WritesLast written written' said))
