-- The faults of a server: which of several is told, its exit status, and its two lines (profile).
use Rattle.std.specs.Prelude.{ℕ, nat_lt, Bool, true, false, IsTrue, List, ◌++◌, codes, Option, Some, None, Result, Ok, Err, ⊤}
use Rattle.lun_router.specs.declared.closing.CloseFault.{CloseFault}
use Rattle.lun_router.specs.declared.closing.CloseFault.TheVariants as close
use Rattle.library_service.specs.declared.closing_fault.ClosingFault.{ClosingFault}
use Rattle.library_service.specs.declared.closing_fault.ClosingFault.TheVariants as closing
use Rattle.server.specs.declared.acceptor.ServeTerm.{ServeTerm}
use Rattle.server.specs.declared.acceptor.ServeTerm.TheVariants as term
use Rattle.server.specs.declared.faulty_session.FaultySession.{FaultySession}
use Rattle.server.specs.Faults.{faulty_session_text, first_by, is_accepted_before}
use Rattle.library_server.specs.declared.server_fault.ServerFault.{ServerFault}
use Rattle.library_server.specs.declared.server_fault.ServerFault.TheVariants as fault

-- the place in the order in which faults are told
abbrev pub rank : ServerFault → ℕ
rank (fault.Session s) = 1
rank (fault.Close fault) = 2
rank fault.Write = 3
rank fault.Media = 4
rank fault.NoMemory = 5

-- one comes before another by its rank, and of two sessions the one that was accepted first
abbrev pub is_before : ServerFault → ServerFault → Bool
is_before (fault.Session a) (fault.Session b) = is_accepted_before a b
is_before a b = nat_lt (rank a) (rank b)

-- the fault that is told, of two
abbrev pub earlier : Option ServerFault → Option ServerFault → Option ServerFault
earlier = first_by is_before

-- whether the faults of its sessions are a server's own
abbrev pub counts_faults : ServeTerm → Bool
counts_faults (term.Sessions count) = true
counts_faults term.UntilClosed = false

-- what of a session's fault is the server's
abbrev pub own_fault : ServeTerm → Option FaultySession → Option ServerFault
own_fault term None = None
own_fault (term.Sessions count) (Some s) = Some (fault.Session s)
own_fault term.UntilClosed (Some s) = None

-- what of a fault of closing its library is the server's: all
abbrev pub fault_of_closing : ClosingFault → ServerFault
fault_of_closing (closing.Close f) = fault.Close f
fault_of_closing closing.Write = fault.Write
fault_of_closing closing.NoMemory = fault.NoMemory

abbrev pub closing_fault : Result (Unit {0}) ClosingFault → Option ServerFault
closing_fault (Ok u) = None
closing_fault (Err f) = Some (fault_of_closing f)

-- which faults a server may have: a session's where these are its own, and never a missing seat
abbrev pub MayTell : ServeTerm → ServerFault → Type 0
MayTell term (fault.Session s) = IsTrue (counts_faults term)
MayTell term (fault.Close close.Mismatch) = ⊤
MayTell term (fault.Close close.SeatMissing) = ⊥
MayTell term (fault.Close close.NoMemory) = ⊤
MayTell term fault.Write = ⊤
MayTell term fault.Media = ⊤
MayTell term fault.NoMemory = ⊤

-- how it went, where a fault may have happened
abbrev pub told_of : Option ServerFault → Result (Unit {0}) ServerFault
told_of None = Ok tt
told_of (Some fault) = Err fault

abbrev pub exit_status : ServerFault → ℕ
exit_status (fault.Session s) = 4
exit_status (fault.Close fault) = 4
exit_status fault.Write = 4
exit_status fault.Media = 4
exit_status fault.NoMemory = 3

abbrev pub close_words : CloseFault → List ℕ
close_words close.Mismatch = codes "what the sessions were told is not what the records say"
close_words close.SeatMissing = codes "a seat is missing"
close_words close.NoMemory = codes "want of memory"

-- the line that says which kind of fault it is, and one that says what happened to what
abbrev pub fault_text : ServerFault → List ℕ
fault_text (fault.Session s) = codes "vtl: device fault\nvtl: session " ++ faulty_session_text s
fault_text (fault.Close fault) = codes "vtl: device fault\nvtl: the library could not be closed: " ++ close_words fault
fault_text fault.Write = codes "vtl: device fault\nvtl: the lines of the records could not be written"
fault_text fault.Media = codes "vtl: device fault\nvtl: not all of the media could be written"
fault_text fault.NoMemory = codes "vtl: want of memory"
