-- What clauses say of a session.
use Rattle.std.specs.Prelude.{◌≡◌, ℕ, List, ◌++◌, Result, OnOk}
use Rattle.iscsi_pdu.specs.Pdus.{TargetPduValue}
use Rattle.iscsi_answers.specs.Written.{bytes_of_all}
use Rattle.iscsi_session.specs.Ends.{PauseFits}
use Rattle.iscsi_session.specs.Talking.{Answers, Moment, pdus_of}
use Rattle.iscsi_session.specs.Worlds.{World}
use Rattle.iscsi_session.specs.declared.fault.IscsiFault.{IscsiFault}
use Rattle.iscsi_session.specs.declared.talking.Pause.{Pause}
use Rattle.iscsi_session.specs.declared.talking.Session.{Session}

-- a session and what serves it
abbrev pub moment : {S K : Type 0} → Session K → S → Moment S
moment session s = record {
  tasks = session.connection.tasks;
  service = s;
  pending = session.read_buffer;
  out = session.connection.out.items;
}

-- some of what is pending is answered, no logout asked for; and without a fault the rest is pending then, and what was said waits to be written.
-- Why that paused fits the rest
abbrev pub Advances : {S : Type 0} → World S → Result Pause IscsiFault → Moment S → Moment S → Type 0
Advances w result a b =
    (said : List TargetPduValue) × (rest : List ℕ) × (answers : Answers w 0 a said b rest)
    × OnOk result ((rest ≡ b.pending) × (b.out ≡ a.out ++ bytes_of_all said)) × PauseFits result (pdus_of answers.events) b.tasks rest
