-- MOVE MEDIUM between a changer's element and a drive, or between two drives, and EXCHANGE MEDIUM with a drive (SMC-3, "MOVE MEDIUM command",
-- "EXCHANGE MEDIUM command"). It is judged at the changer, as every command is. Where its map and marks refuse nothing, but a volume is in a
-- drive's own hands, or to come there, the changer alone would answer 44h/00h: then the drives decide, and the volumes are carried.
use Rattle.std.specs.Prelude.{◌≡◌, ℕ, ◌+◌, ◌-◌, ◌&&◌, Bool, true, false, List, [], ◌∷◌, Option, Some, None, is_some, Result, Ok, Err, is_ok, nat_eq, zero, suc, if◌then◌else◌, ◌⊎◌}
use Rattle.std.specs.Cmp.Lexicographic.{pointwise}
use Rattle.scsi_nexus.specs.declared.nexus.Nexus.{Nexus}
use Rattle.scsi_sense.specs.Conditions.{has_codes_of}
use Rattle.scsi_sense.specs.declared.condition.Condition.{Condition}
use Rattle.scsi_sense.specs.declared.condition.Condition.TheVariants.{InternalTargetFailure, MediumRemovalPrevented}
use Rattle.scsi_sense.specs.declared.sense.Sense.{Sense}
use Rattle.scsi_sense.specs.declared.status.Status.TheVariants as status
use Rattle.tape_medium.specs.declared.volume.Volume.{Volume}
use Rattle.tape_medium.specs.declared.volume.VolumeTag.{VolumeTag}
use Rattle.device_server.specs.Ends.{IsSameDevice}
use Rattle.device_server.specs.View.{DeviceView, commands_of, drives_of, held_in, taken, put, marked, journeyed, exchange_journeyed}
use Rattle.judgement.specs.Judge.{judged}
use Rattle.judgement.specs.JudgedUnit.{JudgedUnit}
use Rattle.judgement.specs.declared.decision.Decision.{Decision}
use Rattle.judgement.specs.declared.reply.Reply.{Reply}
use Rattle.judgement.specs.Replies.{busy, good, check}
use Rattle.judgement.specs.Commands.{act_of}
use Rattle.judgement.specs.UnitState.{has_room}
use Rattle.logical_unit.specs.declared.medium_fault.MediumFault.{MediumFault}
use Rattle.logical_unit.specs.declared.medium_fault.MediumFault.TheVariants.{NotADrive, Prevented, Empty, Full, Busy}
use Rattle.logical_unit.specs.declared.route.Errand.{Errand}
use Rattle.logical_unit.specs.declared.route.Errand.TheVariants.{Move, Exchange}
use Rattle.logical_unit.specs.declared.route.ExchangeRoute.{ExchangeRoute}
use Rattle.logical_unit.specs.declared.route.Route.{Route}
use Rattle.logical_unit.specs.Medium.{taken_out, put_in}
use Rattle.logical_unit.specs.Route.{errand_of, is_upward, named, records_of}
use Rattle.logical_unit.specs.Step.{contacted_present, recorded, HasNumber, HasNumbers, LacksRecord, LacksRecords}
use Rattle.logical_unit.specs.UnitView.{UnitView, UnitWithRoom, last_number}

-- whether the changer leaves its command to the drives: it reports INTERNAL TARGET FAILURE, which it does of nothing else
abbrev pub is_left : Option Sense → Bool
is_left None = false
is_left (Some sense) = has_codes_of sense InternalTargetFailure

-- THE DRIVES

-- why a volume doesn't come out of a drive, as the changer reports it
abbrev pub condition_of_medium : MediumFault → Condition
condition_of_medium Prevented = MediumRemovalPrevented
condition_of_medium NotADrive = InternalTargetFailure
condition_of_medium Empty = InternalTargetFailure
condition_of_medium Full = InternalTargetFailure
condition_of_medium Busy = InternalTargetFailure

-- tags are compared byte by byte
abbrev pub same_tag : VolumeTag → VolumeTag → Bool
same_tag tag other = pointwise nat_eq tag.0 other.0

-- whether the mark at a drive's element names the volume that is in its bay, by their tags
abbrev pub names_held : (mark held : Option VolumeTag) → Bool
names_held (Some mark) (Some held) = same_tag mark held
names_held mark held = false

-- the volume that a drive gives, where the mark at its element names it, and the drive without it
abbrev pub given : (mark : Option VolumeTag) → UnitView → Result (Volume × UnitView) Condition
given mark d = elim (taken_out d) [
  | Ok it ↦ if names_held mark (Some it.0.tag) then Ok it else Err InternalTargetFailure
  | Err fault ↦ Err (condition_of_medium fault)
]

-- the drive with a volume, where its bay is empty as the map says
abbrev pub received : UnitView → Volume → Result UnitView Condition
received d volume = elim (put_in d volume) [ Ok after ↦ Ok after | Err fault ↦ Err InternalTargetFailure ]

-- the changer with a tag at a drive's element
abbrev pub noting : DeviceView → (address : ℕ) → Option VolumeTag → DeviceView
noting changer address tag = elim (marked changer address tag) [ Ok after ↦ after | Err fault ↦ changer ]

-- THE WAYS OF A VOLUME: what they leave of the changer's device and of the drives, or what the changer reports

-- out of a drive into an element of the changer
abbrev pub unloaded : (changer : DeviceView) → UnitView → Route → Result (DeviceView × UnitView) Condition
unloaded changer d r = elim (given (held_in changer r.source) d) [
  | Ok it ↦ elim (put changer r.destination it.0) [ Ok after ↦ Ok (noting after r.source None, it.1) | Err fault ↦ Err InternalTargetFailure ]
  | Err condition ↦ Err condition
]

-- out of an element of the changer into a drive
abbrev pub loaded : (changer : DeviceView) → UnitView → Route → Result (DeviceView × UnitView) Condition
loaded changer d r = elim (taken changer r.source) [
  | Ok it ↦ elim (received d it.0) [ Ok after ↦ Ok (noting it.1 r.destination (Some it.0.tag), after) | Err condition ↦ Err condition ]
  | Err fault ↦ Err InternalTargetFailure
]

-- out of a drive into another
abbrev pub passed : (changer : DeviceView) → (giver taker : UnitView) → Route → Result (DeviceView × UnitView × UnitView) Condition
passed changer giver taker r = elim (given (held_in changer r.source) giver) [
  | Ok it ↦ elim (received taker it.0) [
    | Ok after ↦ Ok (noting (noting changer r.source None) r.destination (Some it.0.tag), it.1, after)
    | Err condition ↦ Err condition
  ]
  | Err condition ↦ Err condition
]

-- the move that names one drive, by which of its ends the drive is
abbrev pub carried_by_one : (changer : DeviceView) → UnitView → Route → (from to : Option ℕ) → Result (DeviceView × UnitView) Condition
carried_by_one changer d r (Some l) None = unloaded changer d r
carried_by_one changer d r None (Some m) = loaded changer d r
carried_by_one changer d r from to = Err InternalTargetFailure

-- AN EXCHANGE with one drive: both volumes are removed, then both are placed, each by what the step before it left. A volume is removed from an
-- element: its drive gives it, and the changer notes that there is none; or the changer takes it out
abbrev pub removed : (changer : DeviceView) → UnitView → (of_drive : Bool) → (address : ℕ) → Result (Volume × DeviceView × UnitView) Condition
removed changer d true address =
    elim (given (held_in changer address) d) [ Ok it ↦ Ok (it.0, noting changer address None, it.1) | Err condition ↦ Err condition ]
removed changer d false address = elim (taken changer address) [ Ok it ↦ Ok (it.0, it.1, d) | Err fault ↦ Err InternalTargetFailure ]

-- and placed in one: its drive takes it, and the changer notes its tag; or the changer puts it in
abbrev pub placed : (changer : DeviceView) → UnitView → (of_drive : Bool) → (address : ℕ) → Volume → Result (DeviceView × UnitView) Condition
placed changer d true address volume =
    elim (received d volume) [ Ok after ↦ Ok (noting changer address (Some volume.tag), after) | Err condition ↦ Err condition ]
placed changer d false address volume = elim (put changer address volume) [ Ok after ↦ Ok (after, d) | Err fault ↦ Err InternalTargetFailure ]

abbrev pub second_placed : (second : ℕ) → (to : Bool) → (other : Volume) → Result (DeviceView × UnitView) Condition → Result (DeviceView × UnitView) Condition
second_placed second to other (Ok it) = placed it.0 it.1 to second other
second_placed second to other (Err condition) = Err condition

abbrev pub both_placed : ExchangeRoute → (between to : Bool) → (one : Volume) → Result (Volume × DeviceView × UnitView) Condition → Result (DeviceView × UnitView) Condition
both_placed x between to one (Ok it) = second_placed x.second to it.0 (placed it.1 it.2 between x.first one)
both_placed x between to one (Err condition) = Err condition

abbrev pub first_removed : ExchangeRoute → (between to : Bool) → Result (Volume × DeviceView × UnitView) Condition → Result (DeviceView × UnitView) Condition
first_removed x between to (Ok it) = both_placed x between to it.0 (removed it.1 it.2 between x.first)
first_removed x between to (Err condition) = Err condition

-- by which of its ends the drive is
abbrev pub exchanged_by : (changer : DeviceView) → UnitView → ExchangeRoute → (from between to : Bool) → Result (DeviceView × UnitView) Condition
exchanged_by changer d x from between to = first_removed x between to (removed changer d from x.source)

-- WHAT IS CARRIED leaves the changer with the addresses of its way, by which it knows where each volume came from
abbrev pub errand_noted : Errand → DeviceView → DeviceView
errand_noted (Move r) changer = journeyed changer r.source r.destination
errand_noted (Exchange x) changer = exchange_journeyed changer x.source x.first x.second

abbrev pub on_its_way : {A : Type 0} → Errand → Result (DeviceView × A) Condition → Result (DeviceView × A) Condition
on_its_way errand (Ok it) = Ok (errand_noted errand it.0, it.1)
on_its_way errand (Err condition) = Err condition

abbrev pub carried_with_one : (changer : DeviceView) → UnitView → Errand → Result (DeviceView × UnitView) Condition
carried_with_one changer d (Move r) = carried_by_one changer d r r.from r.to
carried_with_one changer d (Exchange x) = exchanged_by changer d x (is_some x.from) (is_some x.between) (is_some x.to)

abbrev pub carried_one : (changer : DeviceView) → UnitView → Option Errand → Result (DeviceView × UnitView) Condition
carried_one changer d None = Err InternalTargetFailure
carried_one changer d (Some errand) = on_its_way errand (carried_with_one changer d errand)

-- two drives, by their numbers
pub record TwoDrives : Type 0 where
  pub low : UnitView
  pub high : UnitView

-- the move that names two
abbrev pub upward : Result (DeviceView × UnitView × UnitView) Condition → Result (DeviceView × TwoDrives) Condition
upward (Ok it) = Ok (it.0, record { low = it.1; high = it.2 })
upward (Err condition) = Err condition

abbrev pub downward : Result (DeviceView × UnitView × UnitView) Condition → Result (DeviceView × TwoDrives) Condition
downward (Ok it) = Ok (it.0, record { low = it.2; high = it.1 })
downward (Err condition) = Err condition

abbrev pub carried_by_two : (changer : DeviceView) → TwoDrives → Route → Result (DeviceView × TwoDrives) Condition
carried_by_two changer ds r =
    if is_upward r.from r.to then upward (passed changer ds.low ds.high r) else downward (passed changer ds.high ds.low r)

-- which is never an exchange
abbrev pub carried_two : (changer : DeviceView) → TwoDrives → Option Errand → Result (DeviceView × TwoDrives) Condition
carried_two changer ds None = Err InternalTargetFailure
carried_two changer ds (Some (Move r)) = on_its_way (Move r) (carried_by_two changer ds r)
carried_two changer ds (Some (Exchange x)) = Err InternalTargetFailure

-- THE MOVE

-- what the changer's record and its answer say, by what is carried; a device is the changer's then
abbrev pub ended : {A : Type 0} → UnitView → Nexus → (cdb bytes : List ℕ) → A → JudgedUnit × Decision × Reply → Result (DeviceView × A) Condition → (UnitView × Reply) × A
ended c n cdb bytes drives answer (Ok it) = (recorded c n (act_of (commands_of c.device) cdb bytes) (record answer.0 { device = it.0 }, answer.1, good []), it.1)
ended c n cdb bytes drives answer (Err condition) = (recorded c n (act_of (commands_of c.device) cdb bytes) (answer.0, answer.1, check condition), drives)

-- judged at the changer, and left to the drives or ended there
abbrev pub concluded : {A : Type 0} → UnitView → Nexus → (cdb bytes : List ℕ) → A → JudgedUnit × Decision × Reply → Result (DeviceView × A) Condition → (UnitView × Reply) × A
concluded c n cdb bytes drives answer carried =
    if is_left answer.2.sense then ended c n cdb bytes drives answer carried
    else (recorded c n (act_of (commands_of c.device) cdb bytes) answer, drives)

abbrev pub errand_at : UnitView → (cdb : List ℕ) → Option Errand
errand_at c cdb = errand_of (commands_of c.device) (drives_of c.device) cdb

abbrev pub judged_at : UnitView → Nexus → (cdb bytes : List ℕ) → JudgedUnit × Decision × Reply
judged_at c n cdb bytes = judged (contacted_present c n) n cdb bytes

abbrev pub moved_one : (c d : UnitView) → Nexus → (cdb bytes : List ℕ) → (UnitView × Reply) × UnitView
moved_one c d n cdb bytes = concluded c n cdb bytes d (judged_at c n cdb bytes) (carried_one c.device d (errand_at c cdb))

abbrev pub moved_two : UnitView → TwoDrives → Nexus → (cdb bytes : List ℕ) → (UnitView × Reply) × TwoDrives
moved_two c ds n cdb bytes = concluded c n cdb bytes ds (judged_at c n cdb bytes) (carried_two c.device ds (errand_at c cdb))

-- whether the volume is carried, and the drives then have records too
abbrev pub is_carried : {A : Type 0} → JudgedUnit × Decision × Reply → Result A Condition → Bool
is_carried answer carried = is_left answer.2.sense && is_ok carried

-- BUSY with nothing changed, which must come where there is no slot for the sender or a last record number is used, that of a drive only
-- where the volumes would be carried, and may come for want of room for a record; or the move
abbrev pub MovesOne : (c d : UnitView) → Nexus → (cdb bytes : List ℕ) → (UnitView × Reply) × UnitView → Type 0
MovesOne c d n cdb bytes new =
    (new ≡ ((c, busy), d))
    ⊎ ((has_room c.state n ≡ true) × HasNumber c
    × (is_carried (judged_at c n cdb bytes) (carried_one c.device d (errand_at c cdb)) ≡ true → HasNumbers d (records_of (errand_at c cdb)))
    × (new ≡ moved_one c d n cdb bytes))

abbrev pub MovesTwo : UnitView → TwoDrives → Nexus → (cdb bytes : List ℕ) → (UnitView × Reply) × TwoDrives → Type 0
MovesTwo c ds n cdb bytes new =
    (new ≡ ((c, busy), ds))
    ⊎ ((has_room c.state n ≡ true) × HasNumber c
    × (is_carried (judged_at c n cdb bytes) (carried_two c.device ds (errand_at c cdb)) ≡ true → HasNumber ds.low × HasNumber ds.high)
    × (new ≡ moved_two c ds n cdb bytes))

-- BUSY comes only where there is no slot for the sender, or no room or no number for the record at the changer; or where the volume would
-- be carried, and there is no room or no number for the record of a drive. A move takes no other memory.
abbrev pub LacksAtChanger : UnitWithRoom → Nexus → Type 0
LacksAtChanger c n = (has_room c.unit.state n ≡ false) ⊎ LacksRecord c

abbrev pub OneIsBusyOnlyFor : (c d : UnitWithRoom) → Nexus → (cdb bytes : List ℕ) → Reply → Type 0
OneIsBusyOnlyFor c d n cdb bytes reply = reply.status ≡ status.Busy
    → LacksAtChanger c n ⊎ ((is_carried (judged_at c.unit n cdb bytes) (carried_one c.unit.device d.unit (errand_at c.unit cdb)) ≡ true)
    × LacksRecords d (records_of (errand_at c.unit cdb)))

abbrev pub TwoAreBusyOnlyFor : (c low high : UnitWithRoom) → Nexus → (cdb bytes : List ℕ) → Reply → Type 0
TwoAreBusyOnlyFor c low high n cdb bytes reply = reply.status ≡ status.Busy
    → LacksAtChanger c n
    ⊎ ((is_carried (judged_at c.unit n cdb bytes) (carried_two c.unit.device (record { low = low.unit; high = high.unit }) (errand_at c.unit cdb)) ≡ true)
    × (LacksRecord low ⊎ LacksRecord high))

-- the records that a unit has more, by its logical unit number and the record's, rising
abbrev pub numbers_after : (lun last count : ℕ) → List (ℕ × ℕ)
numbers_after lun last zero = []
numbers_after lun last (suc count) = (lun, last + 1) ∷ numbers_after lun (last + 1) count

abbrev pub numbers_of : (before after : UnitView) → List (ℕ × ℕ)
numbers_of before after = numbers_after before.state.lun (last_number before) (last_number after - last_number before)

-- a unit that stays the same one: its device of the same kind, profile and size, its number, its target's units and their profile, its
-- registrations and reservation
pub record IsSameUnit (u v : UnitView) : Type 0 where
  pub device : IsSameDevice u.device v.device
  pub lun : v.state.lun ≡ u.state.lun
  pub units : v.state.units ≡ u.state.units
  pub profile : v.state.profile ≡ u.state.profile
  pub reservations : v.state.reservations ≡ u.state.reservations

-- a move leaves each unit the same one
abbrev pub OneStays : Type 0
OneStays = (c d v e : UnitView) (n : Nexus) (cdb bytes : List ℕ) (r : Reply) (drive : ℕ) → named (commands_of c.device) (drives_of c.device) cdb ≡ drive ∷ []
    → MovesOne c d n cdb bytes ((v, r), e) → IsSameUnit c v × IsSameUnit d e

abbrev pub TwoStay : Type 0
TwoStay = (c v : UnitView) (ds es : TwoDrives) (n : Nexus) (cdb bytes : List ℕ) (r : Reply) (low high : ℕ) → named (commands_of c.device) (drives_of c.device) cdb ≡ low ∷ high ∷ []
    → MovesTwo c ds n cdb bytes ((v, r), es) → IsSameUnit c v × IsSameUnit ds.low es.low × IsSameUnit ds.high es.high
