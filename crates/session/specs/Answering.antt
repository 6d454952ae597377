-- What a session does with its frames. `notes s d t` says that a call with the answer d makes t of the service s.
use Rattle.std.specs.Prelude.{◌≡◌, ◌⊎◌, ◌≤◌, ℕ, true, List, [], ◌∷◌, ◌++◌, Option, Some, None}
use Rattle.std.specs.Io.KnownBytes.{Appends}
use Rattle.scsi_cdb.specs.declared.profile.Profile.{Profile}
use Rattle.scsi_nexus.specs.declared.nexus.Nexus.{Nexus}
use Rattle.logical_unit.specs.Answers as event
use Rattle.logical_unit.specs.Answers.{DoneValue, IsAnswer}
use Rattle.frames.specs.Frames.{FrameValue, Login, Command, Reset, Logout}
use Rattle.frames.specs.Stream.{Takes}
use Rattle.frames.specs.Limits.{reply_size_limit}
use Rattle.frames.specs.Replies.{CommandReply, ResetReply, LogoutReply, reply_bytes}
use Rattle.session.specs.Limits.{out_room}
use Rattle.session.specs.declared.logged_in.Session.{Session}

-- a session at one moment: whose it is, what has come and isn't answered yet, and the replies that wait to be written
pub record State : Type 0 where
  pub nexus : Nexus
  pub pending : List ℕ
  pub out : List ℕ

abbrev pub state_of : {ROOM : ℕ} → Session ROOM → State
state_of session = record { nexus = session.nexus; pending = session.read_buffer; out = session.out.items }

-- the reply frame of an answered command
abbrev pub command_reply : DoneValue → List ℕ
command_reply d = reply_bytes (CommandReply d.reply.status d.reply.sense d.reply.number d.reply.payload)

-- the command was submitted as it stands in its frame, and the reply frame of that very answer was added
abbrev pub Commanded : {S : Type 0} → (S → DoneValue → S → Type 0) → S → Nexus → (lun : ℕ) → (cdb bytes out out' : List ℕ) → S → Type 0
Commanded notes s n lun cdb bytes out out' t =
    (d : DoneValue) × IsAnswer d (Some n) lun (event.Command cdb bytes) × notes s d t × (out' ≡ out ++ command_reply d)

abbrev pub WasReset : {S : Type 0} → (S → DoneValue → S → Type 0) → S → (lun : ℕ) → (out out' : List ℕ) → S → Type 0
WasReset notes s lun out out' t =
    (d : DoneValue) × IsAnswer d None lun event.Reset × notes s d t × (out' ≡ out ++ reply_bytes (ResetReply d.reply.status))

-- one frame of a session that is logged in, and not its end, answered: what that adds to the replies, and what it makes of the service
abbrev pub Says : {S : Type 0} → (S → DoneValue → S → Type 0) → Nexus → S → FrameValue → (out out' : List ℕ) → S → Type 0
Says notes n s (Command lun cdb bytes) out out' t = Commanded notes s n lun cdb bytes out out' t
Says notes n s (Reset lun) out out' t = WasReset notes s lun out out' t
Says notes n s (Login nexus) out out' t = ⊥
Says notes n s Logout out out' t = ⊥

-- frames answered one after another
abbrev pub Talks : {S : Type 0} → (S → DoneValue → S → Type 0) → Nexus → S → List FrameValue → (out out' : List ℕ) → S → Type 0
Talks notes n s [] out out' t = (out' ≡ out) × (t ≡ s)
Talks {S} notes n s (f ∷ fs) out out' t = (m : S) × (mid : List ℕ) × Says notes n s f out mid m × Talks notes n m fs mid out' t

-- a call of a session, by its answer: it is of the session's nexus, or a reset, which is of none
abbrev pub IsCall : Nexus → DoneValue → Type 0
IsCall n d = (d.nexus ≡ Some n) ⊎ ((d.nexus ≡ None) × (d.asked ≡ event.Reset))

-- calls of a session one after another, and nothing else, make t of s
abbrev pub Calls : {S : Type 0} → (S → DoneValue → S → Type 0) → Nexus → S → List DoneValue → S → Type 0
Calls notes n s [] t = t ≡ s
Calls {S} notes n s (d ∷ ds) t = (m : S) × IsCall n d × notes s d m × Calls notes n m ds t

abbrev pub ComesByCalls : {S : Type 0} → (S → DoneValue → S → Type 0) → Nexus → S → S → Type 0
ComesByCalls notes n s t = (ds : List DoneValue) × Calls notes n s ds t

-- some frames that were pending were answered, in order, and others are pending
pub record Answers {S : Type 0} (profile : Profile) (notes : S → DoneValue → S → Type 0) (s : S) (before after : State) (t : S) : Type 0 where
  pub nexus : after.nexus ≡ before.nexus
  pub frames : List FrameValue
  pub talked : Talks notes before.nexus s frames before.out after.out t
  pub taken : Takes profile true before.pending frames after.pending

-- and then LOGOUT
pub record AnswersAll {S : Type 0} (profile : Profile) (notes : S → DoneValue → S → Type 0) (s : S) (before after : State) (t : S) : Type 0 where
  pub frames : List FrameValue
  pub said : List ℕ
  pub talked : Talks notes before.nexus s frames before.out said t
  pub last : after.out ≡ said ++ reply_bytes LogoutReply
  pub taken : Takes profile true before.pending (frames ++ Logout ∷ []) after.pending

-- part of the replies was written, and the others wait behind it
pub record AnswersOut
    {S : Type 0} (profile : Profile) (notes : S → DoneValue → S → Type 0) (s : S) (before : State) (written written' : Option (List ℕ)) (after : State) (t : S)
    : Type 0 where
  pub gone : List ℕ
  pub appended : Appends written written' gone
  pub answered : Answers profile notes s before (record after { out = gone ++ after.out }) t

pub record AnswersAllOut
    {S : Type 0} (profile : Profile) (notes : S → DoneValue → S → Type 0) (s : S) (before : State) (written written' : Option (List ℕ)) (after : State) (t : S)
    : Type 0 where
  pub gone : List ℕ
  pub appended : Appends written written' gone
  pub answered : AnswersAll profile notes s before (record after { out = gone ++ after.out }) t

-- what waits to be written is no more than one reply of the largest, and there is room for another behind it
abbrev pub HasRoom : Profile → (waiting capacity : ℕ) → Type 0
HasRoom profile waiting capacity = (waiting ≤ reply_size_limit profile) × (out_room profile ≤ capacity)
