-- Worked rows: how serving ends by a fault, which of two is told, and a session that had one.
use Rattle.std.specs.Prelude.{◌≡◌, ℕ, codes, Some, None}
use Rattle.lun_router.specs.declared.closing.CloseFault.TheVariants as close
use Rattle.server.specs.declared.faulty_session.Cause.TheVariants.{Silence}
use Rattle.server.specs.declared.faulty_session.FaultySession.{FaultySession}
use Rattle.library_server.specs.declared.server_fault.ServerFault.{ServerFault}
use Rattle.library_server.specs.declared.server_fault.ServerFault.TheVariants.{Close, Media, NoMemory, Session, Write}
use Rattle.library_server.specs.declared.socket_fault.SocketFault.TheVariants.{Server}
use Rattle.library_server.specs.Faults.{socket_status, socket_text}
use Rattle.library_server.specs.ServerFaults.{earlier}

pub record StatusesOfServing : Type 0 where
  pub session : (session : FaultySession) → socket_status (Server (Session session)) ≡ 4
  pub close : (fault : _) → socket_status (Server (Close fault)) ≡ 4
  pub write : socket_status (Server Write) ≡ 4
  pub media : socket_status (Server Media) ≡ 4
  pub no_memory : socket_status (Server NoMemory) ≡ 3

-- a session that ended since nothing came in time
abbrev pub silent_session : ℕ → FaultySession
silent_session number = record { number = number; nexus = None; cause = Silence }

pub record LinesOfServing : Type 0 where
  pub session : socket_text (Server (Session (silent_session 3)))
      ≡ Some (codes "vtl: device fault\nvtl: session 3 before its LOGIN: nothing came in time")
  pub later_session : socket_text (Server (Session (silent_session 12))) ≡ Some (codes "vtl: device fault\nvtl: session 12 before its LOGIN: nothing came in time")
  pub mismatch : socket_text (Server (Close close.Mismatch))
      ≡ Some (codes "vtl: device fault\nvtl: the library could not be closed: what the sessions were told is not what the records say")
  pub seat_missing : socket_text (Server (Close close.SeatMissing))
      ≡ Some (codes "vtl: device fault\nvtl: the library could not be closed: a seat is missing")
  pub no_room_to_compare : socket_text (Server (Close close.NoMemory))
      ≡ Some (codes "vtl: device fault\nvtl: the library could not be closed: want of memory")
  pub write : socket_text (Server Write) ≡ Some (codes "vtl: device fault\nvtl: the lines of the records could not be written")
  pub media : socket_text (Server Media) ≡ Some (codes "vtl: device fault\nvtl: not all of the media could be written")
  pub no_memory : socket_text (Server NoMemory) ≡ Some (codes "vtl: want of memory")

-- of two faults this one is told and not the other, in whichever order they are asked for
abbrev pub IsToldBefore : (told other : ServerFault) → Type 0
IsToldBefore told other = (earlier (Some told) (Some other) ≡ Some told) × (earlier (Some other) (Some told) ≡ Some told)

-- a fault alone is told
abbrev pub IsToldAlone : ServerFault → Type 0
IsToldAlone told = (earlier (Some told) None ≡ Some told) × (earlier None (Some told) ≡ Some told)

pub record OrderOfFaults : Type 0 where
  pub none : earlier None None ≡ None
  pub alone : (fault : ServerFault) → IsToldAlone fault
  pub sessions : IsToldBefore (Session (silent_session 3)) (Session (silent_session 12))
  pub session_close : (session : FaultySession) (fault : _) → IsToldBefore (Session session) (Close fault)
  pub session_write : (session : FaultySession) → IsToldBefore (Session session) Write
  pub session_media : (session : FaultySession) → IsToldBefore (Session session) Media
  pub session_no_memory : (session : FaultySession) → IsToldBefore (Session session) NoMemory
  pub close_write : (fault : _) → IsToldBefore (Close fault) Write
  pub close_media : (fault : _) → IsToldBefore (Close fault) Media
  pub close_no_memory : (fault : _) → IsToldBefore (Close fault) NoMemory
  pub write_media : IsToldBefore Write Media
  pub write_no_memory : IsToldBefore Write NoMemory
  pub media_no_memory : IsToldBefore Media NoMemory
