-- What laws say of the world that a session is in.
use Rattle.std.specs.Prelude.{ℕ, List}
use Rattle.iscsi_pdu.specs.Pdus.{TargetPduValue}
use Rattle.iscsi_pdu.specs.declared.initiator_header.InitiatorHeader.{InitiatorHeader}
use Rattle.iscsi_tasks.specs.Values.{TasksValue}
use Rattle.tickets.specs.declared.ticket.ReplyTicket.{ReplyTicket}
use Rattle.tickets.specs.declared.ticket.Outcome.{Outcome}

-- what comes of a PDU of a task, by its header and payload, and of units that other sessions have reset: what is said, and what becomes of the
-- tasks and of what serves them; that another session has reset a unit; that all sessions are to end within so many seconds; and how keeping what a
-- ticket is for ended
pub record World (S : Type 0) : Type 1 where
  pub works : InitiatorHeader → (payload : List ℕ) → TasksValue → S → (said : List TargetPduValue) → TasksValue → S → Type 0
  pub takes_resets : (units : List ℕ) → TasksValue → S → (said : List TargetPduValue) → TasksValue → S → Type 0
  pub resets : ℕ → Type 0
  pub ends : ℕ → Type 0
  pub settles : ReplyTicket → Outcome → Type 0

abbrev pub world : {S : Type 0}
    → (works : InitiatorHeader → (payload : List ℕ) → TasksValue → S → (said : List TargetPduValue) → TasksValue → S → Type 0)
    → (takes_resets : (units : List ℕ) → TasksValue → S → (said : List TargetPduValue) → TasksValue → S → Type 0)
    → (resets ends : ℕ → Type 0) → (settles : ReplyTicket → Outcome → Type 0) → World S
world works takes_resets resets ends settles =
    record { works = works; takes_resets = takes_resets; resets = resets; ends = ends; settles = settles }
