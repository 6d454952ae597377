-- How a session begins, and how the end of input ends it.
use Rattle.std.specs.Prelude.{◌≡◌, ◌≤◌, ◌-◌, ◌*◌, ℕ, false, List, [], ◌∷◌, length, drop, Option, Some, None}
use Rattle.std.specs.Io.KnownBytes.{Consumes, IsAtEnd}
use Rattle.scsi_cdb.specs.declared.profile.Profile.{Profile}
use Rattle.scsi_nexus.specs.declared.nexus.Nexus.{Nexus}
use Rattle.frames.specs.Limits.{frame_buffer_size}
use Rattle.frames.specs.Frames.{ParsedFrameValue, Login, Command, Reset, Logout, Partial, Complete, Invalid, parsed_frame}
use Rattle.session.specs.declared.fault.End.{End}
use Rattle.session.specs.declared.fault.End.TheVariants.{Closed, Cut}
use Rattle.session.specs.declared.fault.SessionFault.{SessionFault}
use Rattle.session.specs.declared.fault.SessionFault.TheVariants.{BadFrame, TooLong, AlreadyConnected, Read, Write, NoMemory}
use Rattle.session.specs.Faults.{of_frame}
use Rattle.session.specs.declared.login.LoginWait.{LoginWait}
use Rattle.session.specs.declared.login.LoginWait.TheVariants as wait

-- between frames, or within one
abbrev pub end_of : (pending : List ℕ) → End
end_of [] = Closed
end_of (byte ∷ bytes) = Cut

-- so many bytes were read at most
abbrev pub ReadsAtMost : (most : ℕ) → (left left' : Option (List ℕ)) → Type 0
ReadsAtMost most left left' = (read : List ℕ) × Consumes left left' read × (length read ≤ most)

-- a LOGIN came by so many of the reads that there may be, and others may follow
abbrev pub LeavesReads : Profile → (turns : ℕ) → (left left' : Option (List ℕ)) → LoginWait → Type 0
LeavesReads profile turns left left' (wait.Login nexus others) = (others ≤ turns) × ReadsAtMost ((turns - others) * frame_buffer_size profile) left left'
LeavesReads profile turns left left' (wait.Ended end) = Unit {0}

-- what was read begins with a LOGIN, behind which the rest is pending; or the reader is at its end before one has come whole
abbrev pub Awaits : Profile → (turns : ℕ) → (left left' : Option (List ℕ)) → (pending : List ℕ) → LoginWait → Type 0
Awaits profile turns left left' pending (wait.Login nexus others) =
    (read : List ℕ) × (count : ℕ) × Consumes left left' read × (parsed_frame profile false read ≡ Complete (Login nexus) count)
    × (pending ≡ drop count read) × (others ≤ turns)
Awaits profile turns left left' pending (wait.Ended end) =
    Consumes left left' pending × IsAtEnd left' × (parsed_frame profile false pending ≡ Partial) × (end ≡ end_of pending)

-- the fault of a stream before its LOGIN, by what it begins with, if that is one: another frame than a LOGIN, or none at all
abbrev pub fault_before_login : ParsedFrameValue → Option SessionFault
fault_before_login Partial = None
fault_before_login (Complete (Login nexus) size) = None
fault_before_login (Complete (Command lun cdb bytes) size) = Some BadFrame
fault_before_login (Complete (Reset lun) size) = Some BadFrame
fault_before_login (Complete Logout size) = Some BadFrame
fault_before_login (Invalid fault) = Some (of_frame fault)

abbrev pub BeginsWithLogin : Profile → (read : List ℕ) → Type 0
BeginsWithLogin profile read = (nexus : Nexus) × (size : ℕ) × (parsed_frame profile false read ≡ Complete (Login nexus) size)

-- what was read of a session that is kept out by a fault: what shows that fault; less than a LOGIN where a read failed, and a whole one where the
-- nexus isn't free, or the host couldn't be told so
abbrev pub KeepsOut : Profile → SessionFault → (read : List ℕ) → Type 0
KeepsOut profile BadFrame read = fault_before_login (parsed_frame profile false read) ≡ Some BadFrame
KeepsOut profile TooLong read = fault_before_login (parsed_frame profile false read) ≡ Some TooLong
KeepsOut profile Read read = parsed_frame profile false read ≡ Partial
KeepsOut profile AlreadyConnected read = BeginsWithLogin profile read
KeepsOut profile Write read = BeginsWithLogin profile read
KeepsOut profile NoMemory read = Unit {0}

pub record IsKeptOutBy (profile : Profile) (fault : SessionFault) (left left' : Option (List ℕ)) : Type 0 where
  pub read : List ℕ
  pub consumed : Consumes left left' read
  pub shown : KeepsOut profile fault read
