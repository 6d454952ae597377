-- Worked rows: a span in which B's four commands are struck out, what each condition of a span rules out, and who may not change what.
use Rattle.std.specs.Prelude.{◌≡◌, ℕ, true, false, List, [], ◌∷◌, ◌++◌, map, filter, replicate, Some, None, zero, suc, ◌+◌}
use Rattle.std.specs.Global.{Vec}
use Rattle.arrayvec.specs.ArrayVec.{ArrayVec}
use Rattle.scsi_cdb.specs.declared.service_action.OutServiceAction.TheVariants as out
use Rattle.scsi_cdb.specs.declared.profile.Profile.TheVariants.{Spec}
use Rattle.scsi_nexus.specs.declared.nexus.Nexus.{Nexus}
use Rattle.scsi_nexus.specs.Order.{same_nexus}
use Rattle.scsi_sense.specs.declared.status.Status.{Status}
use Rattle.scsi_sense.specs.declared.status.Status.TheVariants.{Good, CheckCondition, ReservationConflict}
use Rattle.permit_tables.specs.declared.res_type.ResType.{ResType}
use Rattle.permit_tables.specs.declared.res_type.ResType.TheVariants as type
use Rattle.permit_tables.specs.declared.out_params.OutParams.{OutParams}
use Rattle.pr_core.specs.State.{State}
use Rattle.pr_core.specs.Judge.{verdict}
use Rattle.pr_core.specs.Outcome.{applied, refusal}
use Rattle.permit_tables.specs.declared.pr_fault.PrFault.TheVariants.{NoRegistrationRoom}
use Rattle.permit_tables.specs.declared.key_rule.KeyRule.TheVariants.{K1, K3, K5}
use Rattle.pr_core.specs.declared.verdict.Verdict.TheVariants.{Allowed, Rule}
use Rattle.tape_medium.specs.Object.{Block}
use Rattle.tape_medium.specs.Tape.{blank}
use Rattle.tape_medium.specs.TapeView.{TapeView}
use Rattle.tape_medium.specs.declared.volume.VolumeTag.{VolumeTag}
use Rattle.device_server.specs.declared.host_drive.HostDrive.{HostDrive}
use Rattle.device_server.specs.View.{DeviceView, Drive}
use Rattle.judgement.specs.declared.reply.Reply.{Reply}
use Rattle.judgement.specs.UnitStateView.{UnitStateView}
use Rattle.logical_unit.specs.Step.{answered}
use Rattle.logical_unit.specs.UnitView.{UnitView}
use Rattle.target_core.specs.declared.event.Event.TheVariants as event
use Rattle.logical_unit.specs.Contents.{SameContents, MayNotChange}
use Rattle.protected_span.specs.Span.{is_the_holder, ConcernsItself, BeginsFor, BeginsForGroup, IsSharedBy}
use Rattle.protected_span.specs.Struck.{struck}

abbrev pub a : Nexus
a = record { sas = 0x500000000000000A; port = 1 }

abbrev pub b : Nexus
b = record { sas = 0x500000000000000B; port = 1 }

-- A UNIT: a drive with a volume, by its registrations and who prevents removal
abbrev pub held_by_a : State
held_by_a = record { keys = (a, 1) ∷ []; reservation = Some (type.Ea, a); generation = 1 }

abbrev pub kept_with : State → List Nexus → UnitStateView
kept_with v preventers = record { lun = 1; units = 2; profile = Spec; reservations = v; slots = (a, []) ∷ (b, []) ∷ []; preventers = preventers }

abbrev pub drive_at : VolumeTag → TapeView → DeviceView
drive_at tag tape = Drive (record { bay = Some (record { tag = tag; protected = false; tape = tape }); loaded = true; block_length = 0; hosts = None })

abbrev pub unit_with : VolumeTag → State → List Nexus → UnitView
unit_with tag v preventers = record { device = drive_at tag (blank 1000); state = kept_with v preventers; base = record { state = kept_with v preventers; last = 0 }; records = [] }

-- WHAT IS SENT: a sender, a CDB, the data; the replies, and the unit in the end
abbrev pub Sending : Type 0
Sending = Nexus × List ℕ × List ℕ

abbrev pub replies : UnitView → List Sending → List Reply
replies u [] = []
replies u (s ∷ l) = (answered u s.0 s.1 s.2).1 ∷ replies (answered u s.0 s.1 s.2).0 l

abbrev pub last : UnitView → List Sending → UnitView
last u [] = u
last u (s ∷ l) = last (answered u s.0 s.1 s.2).0 l

abbrev pub statuses : UnitView → List Sending → List Status
statuses u l = map (λ (r : Reply). r.status) (replies u l)

abbrev pub payloads : UnitView → List Sending → List (List ℕ)
payloads u l = map (λ (r : Reply). r.payload) (replies u l)

abbrev pub by_a : List Sending → List Sending
by_a l = filter (λ s. same_nexus s.0 a) l

abbrev pub allow_removal : List ℕ
allow_removal = 0x1E ∷ replicate 5 0

-- WRITE(6) of B, then of A; REGISTER of B with a key, PREVENT of B; READ POSITION of A; ALLOW of B; REWIND and READ(6) of A
abbrev pub row : List Sending
row =
    (b, 0x0A ∷ 0 ∷ 0 ∷ 0 ∷ 1 ∷ 0 ∷ [], 9 ∷ [])
    ∷ (a, 0x0A ∷ 0 ∷ 0 ∷ 0 ∷ 4 ∷ 0 ∷ [], 1 ∷ 2 ∷ 3 ∷ 4 ∷ [])
    ∷ (b, 0x5F ∷ 0 ∷ 0 ∷ 0 ∷ 0 ∷ 0 ∷ 0 ∷ 0 ∷ 0x18 ∷ 0 ∷ [], replicate 15 0 ++ 2 ∷ replicate 8 0)
    ∷ (b, 0x1E ∷ 0 ∷ 0 ∷ 0 ∷ 1 ∷ 0 ∷ [], [])
    ∷ (a, 0x34 ∷ replicate 9 0, [])
    ∷ (b, allow_removal, [])
    ∷ (a, 0x01 ∷ replicate 5 0, [])
    ∷ (a, 0x08 ∷ 0 ∷ 0 ∷ 0 ∷ 4 ∷ 0 ∷ [], [])
    ∷ []

-- the position behind one block, as READ POSITION shows it
abbrev pub position_1 : List ℕ
position_1 = replicate 7 0 ++ 1 ∷ 0 ∷ 0 ∷ 0 ∷ 1 ∷ replicate 8 0

-- the tape with A's block alone, read to its end
abbrev pub written_by_a : TapeView
written_by_a = record { objects = Block (1 ∷ 2 ∷ 3 ∷ 4 ∷ []) ∷ []; position = 1; capacity = 1000; unchanged = 0 }

-- A holds Exclusive Access
pub record WorkedSpan (tag : VolumeTag) : Type 0 where
  -- B's WRITE(6) and PREVENT end in conflict, its REGISTER and ALLOW are GOOD
  pub all : statuses (unit_with tag held_by_a []) row ≡ ReservationConflict ∷ Good ∷ Good ∷ ReservationConflict ∷ Good ∷ Good ∷ Good ∷ Good ∷ []
  -- A gets the same status and data with B's commands and without
  pub alone : statuses (unit_with tag held_by_a []) (by_a row) ≡ Good ∷ Good ∷ Good ∷ Good ∷ []
  pub data_beside : payloads (unit_with tag held_by_a []) row ≡ [] ∷ [] ∷ [] ∷ [] ∷ position_1 ∷ [] ∷ [] ∷ (1 ∷ 2 ∷ 3 ∷ 4 ∷ []) ∷ []
  pub data_alone : payloads (unit_with tag held_by_a []) (by_a row) ≡ [] ∷ position_1 ∷ [] ∷ (1 ∷ 2 ∷ 3 ∷ 4 ∷ []) ∷ []
  -- in both runs A's block is on the tape, and B's isn't; A still holds, with its key; the generation tells that B registered
  pub device_beside : (last (unit_with tag held_by_a []) row).device ≡ drive_at tag written_by_a
  pub device_alone : (last (unit_with tag held_by_a []) (by_a row)).device ≡ drive_at tag written_by_a
  pub beside : (last (unit_with tag held_by_a []) row).state.reservations ≡ record { keys = (a, 1) ∷ (b, 2) ∷ []; reservation = Some (type.Ea, a); generation = 2 }

-- WHICH EVENTS ARE STRUCK OUT: B's commands to the unit, and nothing else
pub record StruckOut (cdb : ArrayVec ℕ) (bytes : Vec ℕ) : Type 0 where
  pub commands : struck 1 (is_the_holder a) (event.Command b 1 cdb bytes ∷ event.Command a 1 cdb bytes ∷ event.Command b 0 cdb bytes ∷ []) ≡ event.Command a 1 cdb bytes ∷ event.Command b 0 cdb bytes ∷ []
  pub others : struck 1 (is_the_holder a) (event.Loss b 1 ∷ event.Reset 1 ∷ event.Command b 1 cdb bytes ∷ []) ≡ event.Loss b 1 ∷ event.Reset 1 ∷ []

-- THE CONDITIONS, and why each is there

-- parameters with A's key 1 and the key 2
abbrev pub asks : OutParams
asks = record { rk = 1; sark = 2; dest = None; act = out.Preempt; scope_type = 3; unreg = false; defect = None; all_ports = false; listed = false; targets = record { items = [] } }

-- beside A is B, who registered in the span
abbrev pub beside_b : State
beside_b = record { keys = (a, 1) ∷ (b, 2) ∷ []; reservation = Some (type.Ea, a); generation = 2 }

-- the ports of A's SAS address
abbrev pub port : ℕ → Nexus
port p = record { sas = 0x500000000000000A; port = p }

abbrev pub beside_ports : State
beside_ports = record { keys = (port 1, 1) ∷ (port 2, 1) ∷ (port 3, 1) ∷ (port 4, 1) ∷ []; reservation = Some (type.Ea, port 1); generation = 4 }

abbrev pub at_all_ports : OutParams
at_all_ports = record asks { act = out.Register; all_ports = true }

-- REGISTER AND IGNORE EXISTING KEY of another port of A's SAS address, with ALL_TG_PT
abbrev pub changes_key : OutParams
changes_key = record asks { act = out.RegisterAndIgnoreExistingKey; rk = 0; sark = 9; all_ports = true }

abbrev pub releases : OutParams
releases = record asks { act = out.Release }

-- beside A are 255 others, who registered in the span: no registration more has room
abbrev pub registered_from : (sas count : ℕ) → List (Nexus × ℕ)
registered_from sas zero = []
registered_from sas (suc count) = (record { sas = sas; port = 1 }, 2) ∷ registered_from (sas + 1) count

abbrev pub beside_many : State
beside_many = record { keys = (a, 1) ∷ registered_from 0x500000000000000B 255; reservation = Some (type.Ea, a); generation = 256 }

-- REGISTER AND MOVE to a nexus that isn't registered
abbrev pub moves : OutParams
moves = record asks { act = out.RegisterAndMove; dest = Some (record { sas = 0x5000000000001000; port = 1 }) }

abbrev pub unload : Sending
unload = (a, 0x1B ∷ replicate 5 0, [])

pub record ConditionsAreNeeded (tag : VolumeTag) : Type 0 where
  -- A preempts nobody: with B's key it is let through beside B, and is K5 without
  pub preempt_beside : verdict beside_b a asks ≡ Allowed
  pub preempt_alone : verdict held_by_a a asks ≡ Rule K5
  -- A registers itself alone: with ALL_TG_PT it is let through beside its other ports, and is K1 without
  pub register_beside : verdict beside_ports a at_all_ports ≡ Allowed
  pub register_alone : verdict held_by_a a at_all_ports ≡ Rule K1
  -- A moves its hold to nobody: at a table that others filled it is refused, and without them the hold is moved
  pub move_allowed : verdict beside_many a moves ≡ Allowed
  pub move_beside : refusal beside_many a moves ≡ Some NoRegistrationRoom
  pub move_alone : refusal held_by_a a moves ≡ None
  -- another leaves A its key: else A goes on holding, and its RELEASE with the old key is K3
  pub key_changed : applied held_by_a (port 2) changes_key ≡ record { keys = (port 1, 9) ∷ (port 2, 9) ∷ (port 3, 9) ∷ (port 4, 9) ∷ []; reservation = Some (type.Ea, a); generation = 2 }
  pub release_late : verdict (applied held_by_a (port 2) changes_key) a releases ≡ Rule K3
  pub release_alone : verdict held_by_a a releases ≡ Allowed
  -- no other prevents removal at the start: its ALLOW lets A unload, and without it A's LOAD UNLOAD is CHECK CONDITION
  pub unloads_beside : statuses (unit_with tag held_by_a (b ∷ [])) ((b, allow_removal, []) ∷ unload ∷ []) ≡ Good ∷ Good ∷ []
  pub unloads_alone : statuses (unit_with tag held_by_a (b ∷ [])) (unload ∷ []) ≡ CheckCondition ∷ []

-- so a holder may not send these, and where another prevents removal no span begins
pub record ConditionsSay (tag : VolumeTag) : Type 0 where
  pub no_preempt : ConcernsItself a out.Preempt (a ∷ []) → ⊥
  pub no_abort : ConcernsItself a out.PreemptAndAbort (a ∷ []) → ⊥
  pub no_move : ConcernsItself a out.RegisterAndMove (a ∷ []) → ⊥
  pub no_other : ConcernsItself a out.Register (a ∷ b ∷ []) → ⊥
  pub no_other_ignoring : ConcernsItself a out.RegisterAndIgnoreExistingKey (a ∷ b ∷ []) → ⊥
  pub itself : ConcernsItself a out.Register (a ∷ [])
  pub begins : BeginsFor a (unit_with tag held_by_a (a ∷ []))
  pub not_holding : BeginsFor b (unit_with tag held_by_a []) → ⊥
  pub another_prevents : BeginsFor a (unit_with tag held_by_a (b ∷ [])) → ⊥
  pub group_prevents : BeginsForGroup (is_the_holder a) (unit_with tag (record held_by_a { reservation = Some (type.Eaar, a) }) (b ∷ [])) → ⊥
  -- Write Exclusive keeps nobody from reading, which moves the tape: no span of it begins
  pub write_exclusive : BeginsFor a (unit_with tag (record held_by_a { reservation = Some (type.We, a) }) []) → ⊥
  pub registrants_only : IsSharedBy (is_the_holder a) (record held_by_a { reservation = Some (type.Wero, a) }) → ⊥

-- WHO MAY NOT CHANGE what is in a unit, by the type held by A: B, registered or not
abbrev pub held_as : ResType → List (Nexus × ℕ) → State
held_as t keys = record { keys = keys; reservation = Some (t, a); generation = 2 }

abbrev pub both_keys : List (Nexus × ℕ)
both_keys = (a, 1) ∷ (b, 2) ∷ []

pub record MayNot : Type 0 where
  pub we : MayNotChange (held_as type.We both_keys) b
  pub ea : MayNotChange (held_as type.Ea both_keys) b
  pub wero : MayNotChange (held_as type.Wero ((a, 1) ∷ [])) b
  pub earo : MayNotChange (held_as type.Earo ((a, 1) ∷ [])) b
  pub wear : MayNotChange (held_as type.Wear ((a, 1) ∷ [])) b
  pub eaar : MayNotChange (held_as type.Eaar ((a, 1) ∷ [])) b
  pub registered : MayNotChange (held_as type.Earo both_keys) b → ⊥
  pub holder : MayNotChange (held_as type.We both_keys) a → ⊥
  pub unreserved : MayNotChange (record { keys = both_keys; reservation = None; generation = 2 }) b → ⊥

-- what counts as the same contents: the position may move, and in the hosts' profile the counters grow, and nothing else
abbrev pub at_position : ℕ → TapeView → TapeView
at_position position t = record t { position = position }

abbrev pub one_block : TapeView
one_block = record (blank 1000) { objects = Block (7 ∷ []) ∷ [] }

abbrev pub host_drive_at : VolumeTag → HostDrive → DeviceView
host_drive_at tag h =
    Drive (record { bay = Some (record { tag = tag; protected = false; tape = one_block }); loaded = true; block_length = 0; hosts = Some h })

pub record Contents (tag : VolumeTag) : Type 0 where
  pub moved : SameContents (drive_at tag one_block) (drive_at tag (at_position 1 one_block))
  pub written : SameContents (drive_at tag (blank 1000)) (drive_at tag one_block) → ⊥
  pub gone : SameContents (drive_at tag one_block) (Drive (record { bay = None; loaded = false; block_length = 0; hosts = None })) → ⊥
  pub unloaded : SameContents (drive_at tag one_block) (Drive (record { bay = Some (record { tag = tag; protected = false; tape = one_block }); loaded = false; block_length = 0; hosts = None })) → ⊥
  pub set : SameContents (drive_at tag one_block) (Drive (record { bay = Some (record { tag = tag; protected = false; tape = one_block }); loaded = true; block_length = 1; hosts = None })) → ⊥
  pub counted : (h other : HostDrive) → SameContents (host_drive_at tag h) (host_drive_at tag (record h { counters = other.counters }))
  pub held : (h : HostDrive) → SameContents (host_drive_at tag (record h { held = false })) (host_drive_at tag (record h { held = true })) → ⊥
  pub compression : (h : HostDrive) → SameContents (host_drive_at tag (record h { compression = true })) (host_drive_at tag (record h { compression = false })) → ⊥
