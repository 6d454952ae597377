-- How a MOVE MEDIUM or an EXCHANGE MEDIUM begins: it is judged at the changer, which answers it, or leaves it to the drives with nothing changed yet.
use Rattle.std.specs.Prelude.{◌≡◌, ℕ, ◌<◌, Bool, true, false, List, [], Option, Some, None, is_some, IsOk, Result, Ok, Err, ◌⊎◌}
use Rattle.scsi_cdb.specs.Commands.{decoded}
use Rattle.scsi_cdb.specs.declared.profile.CommandSet.{CommandSet}
use Rattle.scsi_cdb.specs.declared.request.Request.{Request}
use Rattle.scsi_nexus.specs.declared.nexus.Nexus.{Nexus}
use Rattle.scsi_sense.specs.declared.condition.Condition.{Condition}
use Rattle.scsi_sense.specs.declared.sense.Sense.{Sense}
use Rattle.scsi_sense.specs.declared.status.Status.{Status}
use Rattle.tape_medium.specs.declared.volume.Volume.{Volume}
use Rattle.audit_log.specs.declared.act.Act.{Act}
use Rattle.device_server.specs.View.{DeviceView, commands_of, taken, put, held_in}
use Rattle.judgement.specs.declared.decision.Decision.{Decision}
use Rattle.judgement.specs.declared.reply.Reply.{Reply}
use Rattle.judgement.specs.Replies.{busy, good, check, IsWhole}
use Rattle.judgement.specs.Commands.{act_of}
use Rattle.judgement.specs.UnitState.{has_room}
use Rattle.judgement.specs.UnitStateView.{UnitStateView}
use Rattle.logical_unit.specs.declared.move_judgement.MoveJudgement.{MoveJudgement}
use Rattle.logical_unit.specs.declared.move_judgement.MoveJudgement.TheVariants.{Answered, Left}
use Rattle.logical_unit.specs.declared.move_judgement.MoveStop.{MoveStop}
use Rattle.logical_unit.specs.declared.move_judgement.MoveStop.TheVariants.{Refused, Busy}
use Rattle.logical_unit.specs.declared.route.Errand.{Errand}
use Rattle.logical_unit.specs.declared.route.Errand.TheVariants.{Move, Exchange}
use Rattle.logical_unit.specs.declared.route.ExchangeRoute.{ExchangeRoute}
use Rattle.logical_unit.specs.declared.route.Route.{Route}
use Rattle.logical_unit.specs.Legal.{IsJudged, kept_by}
use Rattle.logical_unit.specs.Move.{is_left, judged_at, noting}
use Rattle.logical_unit.specs.Route.{errand_in}
use Rattle.logical_unit.specs.Step.{answered, record_of, recorded, HasNumber, IsBusyOnlyFor}
use Rattle.logical_unit.specs.UnitView.{UnitView, UnitWithRoom, RecordedUnitView}

-- a CDB decodes to a command that asks this of volumes, at a changer with these commands and so many drives
pub record DecodesTo (commands : CommandSet) (drives : ℕ) (cdb : List ℕ) (errand : Errand) : Type 0 where
  pub request : Request
  pub reads : decoded commands cdb ≡ Ok request
  pub asks : errand_in drives request ≡ Some errand

-- an end of a move that is no drive's has the volume, or a free place for one
pub record HasRouteWays (changer : DeviceView) (r : Route) : Type 0 where
  pub source : r.from ≡ None → IsOk (taken changer r.source)
  pub destination : r.to ≡ None → (volume : Volume) → IsOk (put changer r.destination volume)

-- and so have the ends of an exchange with one drive, each as the steps before it left the changer. The drive gives the source's volume:
pub record GivesOnly (changer : DeviceView) (x : ExchangeRoute) : Type 0 where
  pub first : IsOk (taken (noting changer x.source None) x.first)
  pub places : (other one : Volume) (between : DeviceView) → taken (noting changer x.source None) x.first ≡ Ok (other, between) → IsOk (put between x.first one)
  pub second : (other one : Volume) (between with_one : DeviceView) → taken (noting changer x.source None) x.first ≡ Ok (other, between)
      → put between x.first one ≡ Ok with_one → IsOk (put with_one x.second other)

-- it gives the first destination's volume and takes the source's:
pub record GivesAndTakes (changer : DeviceView) (x : ExchangeRoute) : Type 0 where
  pub source : IsOk (taken changer x.source)
  pub mark : (one : Volume) (between : DeviceView) → taken changer x.source ≡ Ok (one, between) → held_in between x.first ≡ held_in changer x.first
  pub second : (one other : Volume) (between : DeviceView) → taken changer x.source ≡ Ok (one, between)
      → IsOk (put (noting (noting between x.first None) x.first (Some one.tag)) x.second other)

-- it takes the first destination's volume:
pub record TakesOnly (changer : DeviceView) (x : ExchangeRoute) : Type 0 where
  pub source : IsOk (taken changer x.source)
  pub first : (one : Volume) (without_one : DeviceView) → taken changer x.source ≡ Ok (one, without_one) → IsOk (taken without_one x.first)
  pub places : (one other : Volume) (without_one between : DeviceView) → taken changer x.source ≡ Ok (one, without_one)
      → taken without_one x.first ≡ Ok (other, between) → IsOk (put between x.first one)

-- it gives the source's volume and takes the first destination's:
pub record Swaps (changer : DeviceView) (x : ExchangeRoute) : Type 0 where
  pub first : IsOk (taken (noting changer x.source None) x.first)
  pub places : (other one : Volume) (between : DeviceView) → taken (noting changer x.source None) x.first ≡ Ok (other, between) → IsOk (put between x.first one)

-- by which of the ends the drive is
abbrev pub HasExchangeWays : (changer : DeviceView) → ExchangeRoute → (from between to : Bool) → Type 0
HasExchangeWays changer x true false false = GivesOnly changer x
HasExchangeWays changer x false true false = GivesAndTakes changer x
HasExchangeWays changer x false false true = TakesOnly changer x
HasExchangeWays changer x true false true = Swaps changer x
HasExchangeWays changer x from between to = ⊥

abbrev pub HasWays : (changer : DeviceView) → Errand → Type 0
HasWays changer (Move r) = HasRouteWays changer r
HasWays changer (Exchange x) = HasExchangeWays changer x (is_some x.from) (is_some x.between) (is_some x.to)

-- any whole answer may end the command, whose record leaves what is kept
pub record AwaitsEnd (k : UnitStateView) (n : Nexus) (act : Act) (decision : Decision) : Type 0 where
  pub judged : (number : ℕ) (status : Status) (sense : Option Sense) → IsWhole status sense → IsJudged k (record_of number (Some n) act decision status sense)
  pub state : (number : ℕ) (status : Status) (sense : Option Sense) → kept_by k (record_of number (Some n) act decision status sense) ≡ k

pub record IsAnswered (u v : UnitView) (n : Nexus) (cdb bytes : List ℕ) (reply : Reply) : Type 0 where
  pub ended : is_left (judged_at u n cdb bytes).2.sense ≡ false
  pub answer : answered u n cdb bytes ≡ (v, reply)

pub record IsLeft (u : UnitView) (n : Nexus) (cdb bytes : List ℕ) (errand : Errand) (act : Act) (decision : Decision) : Type 0 where
  pub left : is_left (judged_at u n cdb bytes).2.sense ≡ true
  pub present : (judged_at u n cdb bytes).0 ≡ record { device = u.device; state = u.state }
  pub found : (judged_at u n cdb bytes).1 ≡ decision
  pub asked : act ≡ act_of (commands_of u.device) cdb bytes
  pub awaits : AwaitsEnd u.state n act decision
  pub ways : HasWays u.device errand

abbrev pub Begins : (u v : UnitView) → Nexus → (cdb bytes : List ℕ) → Errand → MoveJudgement → Type 0
Begins u v n cdb bytes errand (Answered reply) = IsAnswered u v n cdb bytes reply
Begins u v n cdb bytes errand (Left act decision) = IsLeft u n cdb bytes errand act decision

abbrev pub IsLeftOpen : MoveJudgement → Type 0
IsLeftOpen (Answered reply) = ⊥
IsLeftOpen (Left act decision) = Unit {0}

-- what is kept and the room for the record stay
abbrev pub StaysIf : (s t : RecordedUnitView) → MoveJudgement → Type 0
StaysIf s t (Answered reply) = Unit {0}
StaysIf s t (Left act decision) = t ≡ s

-- the same at a unit that may be BUSY
pub record IsOpen (x y : UnitWithRoom) (n : Nexus) (cdb bytes : List ℕ) (errand : Errand) (act : Act) (decision : Decision) : Type 0 where
  pub left : IsLeft x.unit n cdb bytes errand act decision
  pub slot : has_room x.unit.state n ≡ true
  pub number : HasNumber x.unit
  pub unit : y.unit ≡ x.unit
  pub room : 0 < y.room

pub record IsEnded (x y : UnitWithRoom) (n : Nexus) (cdb bytes : List ℕ) (reply : Reply) : Type 0 where
  pub slot : has_room x.unit.state n ≡ true
  pub number : HasNumber x.unit
  pub answer : IsAnswered x.unit y.unit n cdb bytes reply

pub record IsPutOff (x y : UnitWithRoom) (n : Nexus) (cdb bytes : List ℕ) (reply : Reply) : Type 0 where
  pub refuses : reply ≡ busy
  pub unit : y.unit ≡ x.unit
  pub only : IsBusyOnlyFor x n cdb bytes busy

abbrev pub BeginsAt : (x y : UnitWithRoom) → Nexus → (cdb bytes : List ℕ) → Errand → MoveJudgement → Type 0
BeginsAt x y n cdb bytes errand (Answered reply) = IsPutOff x y n cdb bytes reply ⊎ IsEnded x y n cdb bytes reply
BeginsAt x y n cdb bytes errand (Left act decision) = IsOpen x y n cdb bytes errand act decision

-- why nothing is carried: what the changer reports; or the volume would be carried, but what a drive's record needs is lacking
abbrev pub StopsMove : {A : Type 0} → Result A Condition → (Lacks : Type 0) → MoveStop → Type 0
StopsMove carried Lacks (Refused condition) = carried ≡ Err condition
StopsMove carried Lacks Busy = IsOk carried × Lacks

-- the end of a command that judgement left open, by what became of the volume
abbrev pub Finishes : (x y : UnitWithRoom) → Nexus → Act → Decision → Option MoveStop → Reply → Type 0
Finishes x y n act decision None reply = (y.unit, reply) ≡ recorded x.unit n act (record { device = x.unit.device; state = x.unit.state }, decision, good [])
Finishes x y n act decision (Some (Refused condition)) reply =
    (y.unit, reply) ≡ recorded x.unit n act (record { device = x.unit.device; state = x.unit.state }, decision, check condition)
Finishes x y n act decision (Some Busy) reply = (reply ≡ busy) × (y.unit ≡ x.unit)
