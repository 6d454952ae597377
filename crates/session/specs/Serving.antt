-- A whole session.
use Rattle.std.specs.Prelude.{◌≡◌, ◌≢◌, ◌⊎◌, MatchBool, ℕ, zero, suc, Bool, true, false, not, ◌&&◌, List, [], ◌∷◌, ◌++◌, length, ◌<◌, Option, Some}
use Rattle.std.specs.Io.KnownBytes.{Consumes, Appends, IsAtEnd}
use Rattle.scsi_cdb.specs.declared.profile.Profile.{Profile}
use Rattle.scsi_nexus.specs.declared.nexus.Nexus.{Nexus}
use Rattle.scsi_sense.specs.declared.status.Status.{Status}
use Rattle.scsi_sense.specs.declared.status.Status.TheVariants.{Good, CheckCondition, Busy, ReservationConflict}
use Rattle.logical_unit.specs.Answers as event
use Rattle.logical_unit.specs.Answers.{DoneValue, IsAnswer}
use Rattle.frames.specs.declared.reply_frame.LoginAnswer.TheVariants.{Accepted, AlreadyConnected}
use Rattle.frames.specs.Limits.{frame_size_limit}
use Rattle.frames.specs.Frames.{FrameValue, Login, Logout, Partial, Complete, parsed_frame}
use Rattle.frames.specs.Replies.{LoginReply, LogoutReply, reply_bytes}
use Rattle.frames.specs.Stream.{Takes}
use Rattle.session.specs.declared.fault.End.{End}
use Rattle.session.specs.declared.fault.End.TheVariants as end
use Rattle.session.specs.declared.fault.SessionFault.{SessionFault}
use Rattle.session.specs.declared.fault.SessionFault.TheVariants as session
use Rattle.session.specs.Answering.{State, Talks, Answers, AnswersAll, ComesByCalls}
use Rattle.session.specs.Faults.{IsOfStream}
use Rattle.session.specs.Login.{IsKeptOutBy, end_of}

-- what was pending is answered as far as it is whole, and all replies are written; and so with a LOGOUT at its end
pub record Writes
    {S : Type 0} (profile : Profile) (notes : S → DoneValue → S → Type 0) (s : S) (before : State) (written written' : Option (List ℕ)) (after : State) (t : S)
    : Type 0 where
  pub said : List ℕ
  pub appended : Appends written written' said
  pub answered : Answers profile notes s before (record after { out = said }) t
  pub partial : parsed_frame profile true after.pending ≡ Partial
  pub short : length after.pending < frame_size_limit profile

pub record WritesAll
    {S : Type 0} (profile : Profile) (notes : S → DoneValue → S → Type 0) (s : S) (before : State) (written written' : Option (List ℕ)) (after : State) (t : S)
    : Type 0 where
  pub said : List ℕ
  pub appended : Appends written written' said
  pub answered : AnswersAll profile notes s before (record after { out = said }) t

-- the last frame of a session that a LOGOUT ends, and its reply
abbrev pub last_frames : End → List FrameValue
last_frames end.Logout = Logout ∷ []
last_frames end.Closed = []
last_frames end.Cut = []

abbrev pub last_reply : End → List ℕ
last_reply end.Logout = reply_bytes LogoutReply
last_reply end.Closed = []
last_reply end.Cut = []

-- a session that no LOGOUT ended read to the end of input, between frames or within one
abbrev pub EndsAt : Profile → End → (left : Option (List ℕ)) → (rest : List ℕ) → Type 0
EndsAt profile end.Logout left rest = Unit {0}
EndsAt profile end left rest = IsAtEnd left × (parsed_frame profile true rest ≡ Partial) × (end ≡ end_of rest)

-- with the reply to its LOGIN as the one that waits to be written
abbrev pub greeted : State → State
greeted state = record state { out = reply_bytes (LoginReply Accepted) }

-- from a LOGIN on: the frames that were pending and that were read, in order, and what was answered to them
pub record Converses
    {S : Type 0} (profile : Profile) (notes : S → DoneValue → S → Type 0) (s : S) (before : State) (left left' written written' : Option (List ℕ)) (end : End)
    (rest : List ℕ) (t : S) : Type 0 where
  pub read : List ℕ
  pub frames : List FrameValue
  pub said : List ℕ
  pub consumed : Consumes left left' read
  pub taken : Takes profile true (before.pending ++ read) (frames ++ last_frames end) rest
  pub talked : Talks notes before.nexus s frames before.out said t
  pub appended : Appends written written' (said ++ last_reply end)
  pub ended : EndsAt profile end left' rest

-- the nexus is lost at each unit below one, and whether none of these was BUSY
abbrev pub is_busy : Status → Bool
is_busy Good = false
is_busy CheckCondition = false
is_busy Busy = true
is_busy ReservationConflict = false

abbrev pub IsLostBelow : {S : Type 0} → (S → DoneValue → S → Type 0) → Nexus → (units : ℕ) → S → S → Bool → Type 0
IsLostBelow notes n zero s t all = (t ≡ s) × (all ≡ true)
IsLostBelow {S} notes n (suc lun) s t all =
    (m : S) × (before : Bool) × (d : DoneValue) × IsLostBelow notes n lun s m before × IsAnswer d (Some n) lun event.Loss × notes m d t
    × (all ≡ (before && not (is_busy d.reply.status)))

-- what a host is told whose LOGIN isn't taken
abbrev pub refusal : SessionFault → List ℕ
refusal session.AlreadyConnected = reply_bytes (LoginReply AlreadyConnected)
refusal session.BadFrame = []
refusal session.TooLong = []
refusal session.Read = []
refusal session.Write = []
refusal session.NoMemory = []

-- a session that ended before it was let in did nothing at the service, wrote its refusal alone, and read what keeps it out
pub record IsKeptOut {S : Type 0} (profile : Profile) (s : S) (left left' written written' : Option (List ℕ)) (fault : SessionFault) (t : S) : Type 0 where
  pub service : t ≡ s
  pub because : IsKeptOutBy profile fault left left'
  pub said : fault ≢ session.Write → Appends written written' (refusal fault)

-- a session that ended early later on: what was read first is its LOGIN, what it did at the service are calls of its own, and the last that it
-- did there was to lose the nexus of that LOGIN at every unit. It ended for want of memory only where such a loss was BUSY
pub record BreaksOff
    {S : Type 0} (profile : Profile) (notes : S → DoneValue → S → Type 0) (count : S → ℕ) (s : S) (left : Option (List ℕ)) (fault : SessionFault) (t : S)
    : Type 0 where
  pub nexus : Nexus
  pub read : List ℕ
  pub middle : Option (List ℕ)
  pub size : ℕ
  pub before : S
  pub all : Bool
  pub consumed : Consumes left middle read
  pub login : parsed_frame profile false read ≡ Complete (Login nexus) size
  pub calls : ComesByCalls notes nexus s before
  pub lost : IsLostBelow notes nexus (count before) before t all
  pub ended : MatchBool all (IsOfStream fault) (fault ≡ session.NoMemory)

-- a session that never logged in: nothing was written, and nothing has changed
pub record NeverLogsIn {S : Type 0} (profile : Profile) (s : S) (left left' written written' : Option (List ℕ)) (end : End) (t : S) : Type 0 where
  pub read : List ℕ
  pub consumed : Consumes left left' read
  pub at_end : IsAtEnd left'
  pub partial : parsed_frame profile false read ≡ Partial
  pub ended : end ≡ end_of read
  pub silent : Appends written written' []
  pub service : t ≡ s

-- a session: what was read begins with a LOGIN and these frames, and LOGOUT where that ended it; what was written is the reply to LOGIN and
-- just one reply for each frame, in order, of the answer to that very frame's call; and then the nexus was lost at every unit
pub record IsHeld
    {S : Type 0} (profile : Profile) (notes : S → DoneValue → S → Type 0) (count : S → ℕ) (s : S) (left left' written written' : Option (List ℕ)) (end : End)
    (t : S)
    : Type 0 where
  pub nexus : Nexus
  pub read : List ℕ
  pub frames : List FrameValue
  pub rest : List ℕ
  pub said : List ℕ
  pub before_loss : S
  pub consumed : Consumes left left' read
  pub taken : Takes profile false read (Login nexus ∷ frames ++ last_frames end) rest
  pub talked : Talks notes nexus s frames (reply_bytes (LoginReply Accepted)) said before_loss
  pub appended : Appends written written' (said ++ last_reply end)
  pub ended : EndsAt profile end left' rest
  pub lost : IsLostBelow notes nexus (count before_loss) before_loss t true

abbrev pub Serves : {S : Type 0} → Profile → (S → DoneValue → S → Type 0) → (count : S → ℕ) → S → (left left' written written' : Option (List ℕ)) →
    End → S → Type 0
Serves profile notes count s left left' written written' end t =
    NeverLogsIn profile s left left' written written' end t ⊎ IsHeld profile notes count s left left' written written' end t
