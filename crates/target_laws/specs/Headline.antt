-- What every run says of each of its commands: it is answered BUSY, with nothing changed, or it is decided by what the accepted acts before it
-- left at its unit, by the permission table and the rules on keys alone.
use Rattle.std.specs.Prelude.{◌≡◌, ◌≢◌, ◌↔◌, ◌⊎◌, ℕ, ◌+◌, ◌==◌, true, false, List, [], ◌∷◌, ◌++◌, length, take, slice_get, Option, Some, None, IsSome, is_some, Ok, Err, if◌then◌else◌}
use Rattle.std.specs.Global.{Vec}
use Rattle.arrayvec.specs.ArrayVec.{ArrayVec}
use Rattle.scsi_cdb.specs.declared.action.InServiceAction.{InServiceAction}
use Rattle.scsi_cdb.specs.declared.kind.Kind.TheVariants as kind
use Rattle.scsi_nexus.specs.declared.nexus.Nexus.{Nexus}
use Rattle.scsi_sense.specs.declared.condition.Condition.{Condition}
use Rattle.scsi_sense.specs.declared.condition.Condition.TheVariants.{InternalTargetFailure, MediumRemovalPrevented}
use Rattle.scsi_sense.specs.declared.status.Status.TheVariants.{Good, Busy, ReservationConflict}
use Rattle.audit_log.specs.declared.record.Record.{Record}
use Rattle.pr_core.specs.State.{State, cell}
use Rattle.pr_core.specs.declared.verdict.Verdict.TheVariants.{Allowed}
use Rattle.tape_medium.specs.declared.volume.Volume.{Volume}
use Rattle.tape_medium.specs.declared.volume.VolumeTag.{VolumeTag}
use Rattle.device_server.specs.View.{DeviceView, kind_of, commands_of, drives_of, held_in, taken, put, journeyed, exchange_journeyed}
use Rattle.device_server.specs.Volumes.{volume_at}
use Rattle.judgement.specs.declared.command.Command.{Command}
use Rattle.judgement.specs.declared.command.Command.TheVariants.{ReserveIn}
use Rattle.judgement.specs.declared.reply.Reply.{Reply}
use Rattle.unit_laws.specs.Check.{ComesToTheCheck}
use Rattle.judgement.specs.Commands.{class_of_command, act_of_command}
use Rattle.judgement.specs.Decisions.{rule_of, in_conflict}
use Rattle.judgement.specs.History.{accepted_by, after_history}
use Rattle.judgement.specs.Readings.{verdict_of, status_data}
use Rattle.judgement.specs.Judge.{let_through}
use Rattle.judgement.specs.JudgedUnit.{JudgedUnit}
use Rattle.judgement.specs.declared.decision.Decision.{Decision}
use Rattle.judgement.specs.UnitState.{has_room, after_contact, is_prevented}
use Rattle.judgement.specs.Replies.{busy, good, check, conflict, numbered}
use Rattle.logical_unit.specs.Medium.{taken_out, put_in}
use Rattle.logical_unit.specs.Move.{is_left, names_held, noting, exchanged_by, errand_at}
use Rattle.logical_unit.specs.Route.{named_in, named}
use Rattle.logical_unit.specs.declared.route.Errand.{Errand}
use Rattle.logical_unit.specs.declared.route.Errand.TheVariants.{Move, Exchange}
use Rattle.logical_unit.specs.declared.route.ExchangeRoute.{ExchangeRoute}
use Rattle.logical_unit.specs.declared.route.Route.{Route}
use Rattle.logical_unit.specs.Step.{HasNumber, contacted_present, recorded, record_of}
use Rattle.logical_unit.specs.UnitView.{UnitView, last_number}
use Rattle.target_core.specs.declared.event.Event.{Event}
use Rattle.target_core.specs.declared.event.Event.TheVariants as event
use Rattle.target_core.specs.Run.{Runs, Steps}
use Rattle.target_core.specs.Laws.{accepted_in}

-- the registrations, the reservation and the generation of a unit by its history: what stood at first, and then the PERSISTENT RESERVE OUT
-- commands to it that ended GOOD, oldest first
abbrev pub by_history : UnitView → (lun : ℕ) → List Event → List Reply → State
by_history u lun es rs = after_history u.state.reservations (accepted_in (commands_of u.device) lun es rs)

-- the record of a refused command: the cell of the permission table that it stands in by the reservations h, and the rule on keys if one was broken
abbrev pub refusal_record : (h : State) → UnitView → Nexus → Command → Record
refusal_record h now n command = record_of (last_number now + 1) (Some n) (act_of_command command) (in_conflict (cell h n (class_of_command command)) (rule_of (verdict_of h n command))) ReservationConflict None

-- a refused command: RESERVATION CONFLICT changes nothing at the unit
pub record IsRefused (h : State) (now left : UnitView) (n : Nexus) (command : Command) (r : Reply) : Type 0 where
  -- its answer is that status alone, with the number of its record
  pub reply : r ≡ numbered conflict (last_number now + 1)
  -- the device is as it was
  pub device : left.device ≡ now.device
  -- so are the registrations, the reservation and the generation
  pub reservations : left.state.reservations ≡ now.state.reservations
  -- and all else that the unit keeps, but that its sender now had contact
  pub contact : left.state ≡ after_contact now.state n
  -- and the records are those that were there and one more: it names the sender's cell of the permission table, and the rule on keys if one decided
  pub base : left.base ≡ now.base
  pub entry : left.records ≡ now.records ++ refusal_record h now n command ∷ []

-- the answer behind the check
abbrev pub behind : UnitView → Nexus → Command → List ℕ → JudgedUnit × Decision × Reply
behind now n command bytes = let_through (contacted_present now n) n command bytes

-- A VOLUME GOES FROM AN ELEMENT TO ANOTHER, each the bay of a drive or one of the changer's own

-- a drive gives the volume, which the mark at its element names
pub record DriveGives (mid next : List UnitView) (drive : ℕ) (mark : Option VolumeTag) (volume : Volume) : Type 0 where
  pub was : UnitView
  pub is : UnitView
  pub there : slice_get mid drive ≡ Some was
  pub stays : slice_get next drive ≡ Some is
  pub gives : taken_out was ≡ Ok (volume, is)
  pub marked : names_held mark (Some volume.tag) ≡ true

-- a drive takes it in
pub record DriveTakes (mid next : List UnitView) (drive : ℕ) (volume : Volume) : Type 0 where
  pub was : UnitView
  pub is : UnitView
  pub there : slice_get mid drive ≡ Some was
  pub stays : slice_get next drive ≡ Some is
  pub takes : put_in was volume ≡ Ok is

-- what the element at an address gives, and takes, and the changer's device before and after: that of a drive leaves it, its own changes
abbrev pub Gives : (mid next : List UnitView) → (before after : DeviceView) → (address : ℕ) → (drive : Option ℕ) → Volume → Type 0
Gives mid next before after address (Some drive) volume = DriveGives mid next drive (held_in before address) volume × (after ≡ before)
Gives mid next before after address None volume = taken before address ≡ Ok (volume, after)

abbrev pub Takes : (mid next : List UnitView) → (before after : DeviceView) → (address : ℕ) → (drive : Option ℕ) → Volume → Type 0
Takes mid next before after address (Some drive) volume = DriveTakes mid next drive volume × (after ≡ before)
Takes mid next before after address None volume = put before address volume ≡ Ok after

-- the mark at an element, where that is of a drive
abbrev pub noted_at : (address : ℕ) → (drive : Option ℕ) → Option VolumeTag → DeviceView → DeviceView
noted_at address (Some drive) tag device = noting device address tag
noted_at address None tag device = device

-- one volume goes from a source to a destination, with the marks at the elements of drives, and the changer notes its way, by which one of the
-- hosts' profile knows where it came from
pub record Goes (mid next : List UnitView) (before after : DeviceView) (source : ℕ) (from : Option ℕ) (destination : ℕ) (to : Option ℕ) : Type 0 where
  pub volume : Volume
  pub without : DeviceView
  pub gives : Gives mid next before without source from volume
  pub with_it : DeviceView
  pub takes : Takes mid next without with_it destination to volume
  pub marks : after ≡ journeyed (noted_at destination to (Some volume.tag) (noted_at source from None with_it)) source destination
  -- and all other elements of the changer hold what they held
  pub others : (address : ℕ) → address ≢ source → address ≢ destination → volume_at after address ≡ volume_at before address

-- as a MOVE MEDIUM asks for it
abbrev pub GoesBy : (mid next : List UnitView) → (before after : DeviceView) → Route → Type 0
GoesBy mid next before after way = Goes mid next before after way.source way.from way.destination way.to

-- TWO VOLUMES CHANGE THEIR ELEMENTS, with one drive among these: both are removed, then both are placed, each by what the step before it left, and
-- the changer notes their ways
pub record Crosses (mid next : List UnitView) (before after : DeviceView) (x : ExchangeRoute) : Type 0 where
  pub drive : ℕ
  pub alone : named_in (Some (Exchange x)) ≡ drive ∷ []
  pub was : UnitView
  pub is : UnitView
  pub there : slice_get mid drive ≡ Some was
  pub stays : slice_get next drive ≡ Some is
  pub unnoted : DeviceView
  pub steps : exchanged_by before was x (is_some x.from) (is_some x.between) (is_some x.to) ≡ Ok (unnoted, is)
  pub marks : after ≡ exchange_journeyed unnoted x.source x.first x.second
  -- and all other elements of the changer hold what they held
  pub others : (address : ℕ) → address ≢ x.source → address ≢ x.first → address ≢ x.second → volume_at after address ≡ volume_at before address

-- as a command asks for it
abbrev pub GoBy : (mid next : List UnitView) → (before after : DeviceView) → Errand → Type 0
GoBy mid next before after (Move way) = GoesBy mid next before after way
GoBy mid next before after (Exchange x) = Crosses mid next before after x

-- a drive that gives a volume by it, or takes one
abbrev pub HasEnd : Errand → (drive : ℕ) → Type 0
HasEnd (Move way) drive = (way.from ≡ Some drive) ⊎ (way.to ≡ Some drive)
HasEnd (Exchange x) drive = (x.from ≡ Some drive) ⊎ ((x.between ≡ Some drive) ⊎ (x.to ≡ Some drive))

-- what is reported where it can't go: 53h/02h of the drive that would give it, where somebody prevents removal there; else 44h/00h
abbrev pub stop_at : Option UnitView → Condition
stop_at None = InternalTargetFailure
stop_at (Some drive) = elim (kind_of drive.device) [
  | kind.Drive ↦ if is_prevented drive.state then MediumRemovalPrevented else InternalTargetFailure
  | kind.Changer ↦ InternalTargetFailure
]

abbrev pub stop_of : List UnitView → (from to : Option ℕ) → Condition
stop_of us None to = InternalTargetFailure
stop_of us (Some drive) None = stop_at (slice_get us drive)
stop_of us (Some drive) (Some other) = if drive == other then InternalTargetFailure else stop_at (slice_get us drive)

-- of an exchange what its steps report: 53h/02h of a drive that would give a volume, where somebody prevents removal there; else 44h/00h
pub record Halts (mid : List UnitView) (before : DeviceView) (x : ExchangeRoute) (condition : Condition) : Type 0 where
  pub drive : ℕ
  pub alone : named_in (Some (Exchange x)) ≡ drive ∷ []
  pub was : UnitView
  pub there : slice_get mid drive ≡ Some was
  pub steps : exchanged_by before was x (is_some x.from) (is_some x.between) (is_some x.to) ≡ Err condition

abbrev pub IsReported : (mid : List UnitView) → (before : DeviceView) → Errand → Condition → Type 0
IsReported mid before (Move way) condition = condition ≡ stop_of mid way.from way.to
IsReported mid before (Exchange x) condition = Halts mid before x condition

-- AN ALLOWED COMMAND

-- a MOVE MEDIUM or EXCHANGE MEDIUM at the changer that names drives, which are all there
abbrev pub AreThere : List UnitView → (luns : List ℕ) → Type 0
AreThere us [] = Unit {0}
AreThere us (lun ∷ luns) = IsSome (slice_get us lun) × AreThere us luns

pub record IsWithDrives (mid : List UnitView) (lun : ℕ) (now : UnitView) (cdb : List ℕ) : Type 0 where
  pub changer : lun ≡ 0
  pub some : named (commands_of now.device) (drives_of now.device) cdb ≢ []
  pub there : AreThere mid (named (commands_of now.device) (drives_of now.device) cdb)

-- the unit answers alone; such a move it doesn't leave to the drives then
pub record IsAlone (mid : List UnitView) (lun : ℕ) (now left : UnitView) (n : Nexus) (cdb bytes : List ℕ) (command : Command) (r : Reply) : Type 0 where
  pub ends : (left, r) ≡ recorded now n (act_of_command command) (behind now n command bytes)
  pub not_left : IsWithDrives mid lun now cdb → is_left (behind now n command bytes).2.sense ≡ false

-- how the changer ends a move that it left to the drives: with its device after it, and an answer
abbrev pub EndsWith : (now left : UnitView) → Nexus → (bytes : List ℕ) → Command → Reply → DeviceView → Reply → Type 0
EndsWith now left n bytes command r device answer =
    (left, r) ≡ recorded now n (act_of_command command) (record { device = device; state = now.state }, (behind now n command bytes).1, answer)

-- what is asked goes: GOOD
pub record IsCarriedOut (mid next : List UnitView) (now left : UnitView) (n : Nexus) (bytes : List ℕ) (command : Command) (r : Reply) (way : Errand) : Type 0 where
  pub device : DeviceView
  pub goes : GoBy mid next now.device device way
  pub ends : EndsWith now left n bytes command r device (good [])

-- no volume can go: CHECK CONDITION, and the changer's device is as it was
pub record IsStopped (mid : List UnitView) (now left : UnitView) (n : Nexus) (bytes : List ℕ) (command : Command) (r : Reply) (way : Errand) : Type 0 where
  pub none : (ms : List UnitView) (device : DeviceView) → ¬ GoBy mid ms now.device device way
  pub condition : Condition
  pub reported : IsReported mid now.device way condition
  pub ends : EndsWith now left n bytes command r now.device (check condition)

-- the changer's map and marks refuse nothing of such a move, and the drives decide
pub record IsByDrives (mid next : List UnitView) (lun : ℕ) (now left : UnitView) (n : Nexus) (cdb bytes : List ℕ) (command : Command) (r : Reply) : Type 0 where
  pub with_drives : IsWithDrives mid lun now cdb
  pub left_to_drives : is_left (behind now n command bytes).2.sense ≡ true
  pub way : Errand
  pub asked : errand_at now cdb ≡ Some way
  pub ends : IsCarriedOut mid next now left n bytes command r way ⊎ IsStopped mid now left n bytes command r way

pub record IsLetIn (h : State) (mid next : List UnitView) (lun : ℕ) (now left : UnitView) (n : Nexus) (cdb bytes : List ℕ) (command : Command) (r : Reply) : Type 0 where
  -- it goes on behind the check: an attention that waits is told, or the command is carried out by its own rules, a move by the drives' too
  pub goes_on : IsAlone mid lun now left n cdb bytes command r ⊎ IsByDrives mid next lun now left n cdb bytes command r
  -- and a PERSISTENT RESERVE IN that ends GOOD shows what the history left
  pub shows : (action : InServiceAction) (allocation_length : ℕ) → command ≡ ReserveIn action allocation_length → r.status ≡ Good → r.payload ≡ take allocation_length (status_data h action)

-- a command that comes to the reservation check is decided by the reservations h
pub record IsDecidedBy (h : State) (mid next : List UnitView) (lun : ℕ) (now left : UnitView) (n : Nexus) (cdb bytes : List ℕ) (command : Command) (r : Reply) : Type 0 where
  -- RESERVATION CONFLICT comes exactly where the permission table and the rules on keys don't allow it
  pub conflicts : (r.status ≡ ReservationConflict) ↔ (verdict_of h n command ≢ Allowed)
  pub refused : verdict_of h n command ≢ Allowed → IsRefused h now left n command r
  pub let_in : verdict_of h n command ≡ Allowed → IsLetIn h mid next lun now left n cdb bytes command r

-- BUSY, with nothing changed anywhere
pub record IsBusy (mid next : List UnitView) (r : Reply) : Type 0 where
  pub reply : r ≡ busy
  pub units : next ≡ mid

-- the command is one that the check bars
pub record IsBarred (h : State) (now : UnitView) (n : Nexus) (cdb bytes : List ℕ) : Type 0 where
  pub command : Command
  pub comes : ComesToTheCheck now n cdb bytes command
  pub verdict : verdict_of h n command ≢ Allowed

-- a command that isn't answered BUSY
pub record IsAnswered (h : State) (mid next : List UnitView) (lun : ℕ) (now left : UnitView) (n : Nexus) (cdb bytes : List ℕ) (r : Reply) : Type 0 where
  -- its sender had a slot, or there was room for one, and there was a number for its record
  pub room : has_room now.state n ≡ true
  pub number : HasNumber now
  -- its status isn't BUSY, so that the status tells which of the two it was
  pub not_busy : r.status ≢ Busy
  -- if it comes to the reservation check, the history decides
  pub decided : (command : Command) → ComesToTheCheck now n cdb bytes command → IsDecidedBy h mid next lun now left n cdb bytes command r
  -- and RESERVATION CONFLICT comes from nowhere else
  pub only_there : r.status ≡ ReservationConflict → IsBarred h now n cdb bytes

-- a drive that a volume of a GOOD move or exchange at the changer came out of, or went into
pub record IsMovedAt (mid next : List UnitView) (lun : ℕ) (now left : UnitView) (cdb : List ℕ) (r : Reply) (k : ℕ) : Type 0 where
  pub changer : lun ≡ 0
  pub good : r.status ≡ Good
  pub way : Errand
  pub asked : errand_at now cdb ≡ Some way
  pub end : HasEnd way k
  pub goes : GoBy mid next now.device left.device way

-- a command to the unit at lun, from the units mid to the units next, where the unit's accepted history left h
pub record IsServed (h : State) (mid next : List UnitView) (lun : ℕ) (n : Nexus) (cdb bytes : List ℕ) (r : Reply) : Type 0 where
  -- the unit before and after it
  pub now : UnitView
  pub left : UnitView
  pub there : slice_get mid lun ≡ Some now
  pub stays : slice_get next lun ≡ Some left
  -- its registrations, reservation and generation are what the history left
  pub history : now.state.reservations ≡ h
  -- and then what the history leaves with this command, if it is accepted
  pub leaves : left.state.reservations ≡ after_history h (accepted_by (commands_of now.device) n cdb bytes r.status)
  -- every other unit stays as it was, but for a drive that gives or takes the volume of a GOOD move
  pub others : (k : ℕ) → k ≢ lun → (slice_get next k ≡ slice_get mid k) ⊎ IsMovedAt mid next lun now left cdb r k
  -- it is answered BUSY, or by the history
  pub answer : IsBusy mid next r ⊎ IsAnswered h mid next lun now left n cdb bytes r
  -- and BUSY must come where its sender has no slot and none is left, and where there is no number for its record
  pub full : (has_room now.state n ≡ false) ⊎ ¬ HasNumber now → IsBusy mid next r

-- THE HEADLINE. A command in a run, at its place among the events and replies, to a unit that is there at the start
pub record IsAsked (us vs : List UnitView) (before after : List Event) (rs qs : List Reply) (n : Nexus) (lun : ℕ) (cdb : ArrayVec ℕ) (bytes : Vec ℕ) (r : Reply) (u : UnitView) : Type 0 where
  pub place : length rs ≡ length before
  pub there : slice_get us lun ≡ Some u
  pub run : Runs us (before ++ event.Command n lun cdb bytes ∷ after) (rs ++ r ∷ qs) vs

-- it is served by the accepted history before it, between the events before and those after
pub record IsServedThere (us vs : List UnitView) (before after : List Event) (rs qs : List Reply) (n : Nexus) (lun : ℕ) (cdb : ArrayVec ℕ) (bytes : Vec ℕ) (r : Reply) (u : UnitView) : Type 0 where
  pub mid : List UnitView
  pub next : List UnitView
  pub first : Runs us before rs mid
  pub step : Steps mid (event.Command n lun cdb bytes) (next, r)
  pub rest : Runs next after qs vs
  pub served : IsServed (by_history u lun before rs) mid next lun n cdb.items bytes.items r

-- so it is of each command of each run
abbrev pub Headline : Type 0
Headline =
    (us vs : List UnitView) (before after : List Event) (rs qs : List Reply) (n : Nexus) (lun : ℕ) (cdb : ArrayVec ℕ) (bytes : Vec ℕ) (r : Reply) (u : UnitView)
    → IsAsked us vs before after rs qs n lun cdb bytes r u → IsServedThere us vs before after rs qs n lun cdb bytes r u
