-- Events that send given commands, and the runs of some of them.
use Rattle.std.proofs.Common.{ℕ, ◌<◌, ◌^◌, List, [], ◌∷◌, length, inl, refl, arith}
use Rattle.std.specs.Global.{Global}
use denote.RawPtr.{null_ptr}
use Rattle.scsi_nexus.specs.declared.nexus.Nexus.{Nexus}
use Rattle.unit_laws.specs.Rows.{a}
use Rattle.logical_unit.specs.UnitView.{UnitView}
use Rattle.target_core.specs.declared.event.Event.{Event}
use Rattle.target_core.specs.declared.event.Event.TheVariants as event
use Rattle.target_laws.specs.Rows as rows
use Rattle.target_laws.specs.LibraryRows as library

-- a command with these bytes and data
abbrev event_of : Global → Nexus → ℕ → (cdb bytes : List ℕ) → length bytes < 2 ^ 63 → Event
event_of heap n lun cdb bytes small =
    event.Command n lun (record { items = cdb }) (record { ptr = null_ptr; len = length bytes; cap = length bytes; alloc = heap; items = bytes; ok = (refl, omega arith); small = small })

-- no data is longer than the address space
abbrev AllFit : List rows.Sending → Type 0
AllFit [] = Unit {0}
AllFit (s ∷ l) = (length s.2 < 2 ^ 63) × AllFit l

abbrev events_of : Global → (l : List rows.Sending) → AllFit l → List Event
events_of heap [] h = []
events_of heap (s ∷ l) h = event_of heap s.0 1 s.1 s.2 h.0 ∷ events_of heap l h.1

send : (heap : Global) (l : List rows.Sending) (h : AllFit l) → rows.AllSend (events_of heap l h) l
send heap [] h = tt
send heap (s ∷ l) h = ((refl, refl, refl, refl), send heap l h.1)

abbrev AllFitIn : List library.Sending → Type 0
AllFitIn [] = Unit {0}
AllFitIn (s ∷ l) = (length s.2 < 2 ^ 63) × AllFitIn l

abbrev events_in : Global → (l : List library.Sending) → AllFitIn l → List Event
events_in heap [] h = []
events_in heap (s ∷ l) h = event_of heap a s.0 s.1 s.2 h.0 ∷ events_in heap l h.1

send_in : (heap : Global) (l : List library.Sending) (h : AllFitIn l) → library.AllSend (events_in heap l h) l
send_in heap [] h = tt
send_in heap (s ∷ l) h = ((refl, refl, refl, refl), send_in heap l h.1)

pub sent : (heap : Global) → rows.IsSent rows.sent
sent heap =
    let h : AllFit rows.sent = (omega arith, (omega arith, (omega arith, (omega arith, (omega arith, (omega arith, (omega arith, (omega arith, tt)))))))) in
    record { events = events_of heap rows.sent h; send = send heap rows.sent h }

pub sent_in : (heap : Global) → library.IsSent library.sent
sent_in heap =
    let h : AllFitIn library.sent = (omega arith, (omega arith, (omega arith, (omega arith, (omega arith, tt))))) in
    record { events = events_in heap library.sent h; send = send_in heap library.sent h }

pub sent_out : (heap : Global) → library.IsSent library.sent_out
sent_out heap =
    let h : AllFitIn library.sent_out = (omega arith, tt) in
    record { events = events_in heap library.sent_out h; send = send_in heap library.sent_out h }

-- A's TEST UNIT READY to a drive that answers it BUSY
pub busy_run : Global → (u : UnitView) → rows.HasBusyRun u
busy_run heap u = record {
  events = event_of heap rows.a 1 rows.test_unit_ready [] (omega arith) ∷ [];
  send = ((refl, refl, refl, refl), tt);
  run = (rows.changer ∷ u ∷ [], record { unit = u; step = inl refl; units = refl }, refl);
}
