-- A tape drive and its step by each command (SSC-4, "Explicit address command descriptions", "Implicit address command descriptions").
use Rattle.std.specs.Prelude.{ℕ, ◌+◌, ◌-◌, ◌*◌, ◌/◌, ◌%◌, ◌^◌, ◌==◌, nat_le, zero, suc, Bool, true, false, not, ◌&&◌, ◌||◌, List, [], ◌∷◌, ◌++◌, length, take, replicate, unsigned_abs, Option, Some, None, Result, Ok, Err, if◌then◌else◌}
use Rattle.std.specs.List.{flat_map}
use Rattle.std.specs.Option.{option_map}
use Rattle.scsi_cdb.specs.declared.profile.Profile.{Profile}
use Rattle.scsi_cdb.specs.declared.profile.Profile.TheVariants.{Spec, Hosts}
use Rattle.scsi_cdb.specs.declared.request.Request.{Request}
use Rattle.scsi_cdb.specs.declared.request.Request.TheVariants.{TestUnitReady, Rewind, ReadBlockLimits, Read, Write, WriteFilemarks, Space, ModeSelect, Erase, ModeSense, LoadUnload, Locate, ReadPosition}
use Rattle.scsi_sense.specs.declared.condition.Condition.TheVariants.{MediumNotPresent, InitializingCommandRequired, InvalidFieldInCdb, InvalidCommandOperationCode, WriteProtected, EndOfDataDetected}
use Rattle.tape_medium.specs.Limits.{most_block}
use Rattle.tape_medium.specs.Object.{Object, Block, Mark}
use Rattle.tape_medium.specs.TapeView.{TapeView}
use Rattle.tape_medium.specs.Tape.{ahead, object_at, item_of, passed, moved_to, located, erased, writes_block, writes_blocks, writes_marks}
use Rattle.tape_medium.specs.Space.{spaced}
use Rattle.tape_medium.specs.declared.item.Item.{Item}
use Rattle.tape_medium.specs.declared.item.Item.TheVariants as item
use Rattle.tape_medium.specs.declared.space.SpaceCode.{SpaceCode}
use Rattle.tape_medium.specs.declared.space.SpaceCode.TheVariants.{Blocks, Marks, EndOfData}
use Rattle.tape_medium.specs.declared.space.SpaceEnd.{SpaceEnd}
use Rattle.tape_medium.specs.declared.space.Stop.{Stop}
use Rattle.tape_medium.specs.declared.space.Stop.TheVariants.{Done, AtMark, AtEnd, AtStart}
use Rattle.tape_medium.specs.declared.fault.TapeFault.{TapeFault}
use Rattle.tape_medium.specs.declared.volume.Volume.{Volume}
use Rattle.device_server.specs.declared.host_drive.HostDrive.{HostDrive}
use Rattle.device_server.specs.declared.outcome.Outcome.{Outcome}
use Rattle.device_server.specs.Outcomes.{done, set, ended, refused}
use Rattle.device_server.specs.Senses.{at_mark, at_end_of_data, at_beginning, past_the_end, of_other_length, residue}
use Rattle.device_server.specs.Mode.{block_length_after, mode_data}

-- a drive: the volume in its bay, whether that is loaded, the block length of its mode, 0 for blocks of any length, and what it keeps besides
-- if it is of the hosts' profile
pub record DriveView : Type 0 where
  pub bay : Option Volume
  pub loaded : Bool
  pub block_length : ℕ
  pub hosts : Option HostDrive

abbrev pub empty_drive : DriveView
empty_drive = record { bay = None; loaded = false; block_length = 0; hosts = None }

-- READING

-- one block of any length: SILI hides that its length is another, unless it is longer and the mode has a block length
abbrev pub one_block : (sili : Bool) → (block_length asked had : ℕ) → List ℕ → Outcome
one_block sili block_length asked had bytes =
    if had == asked || sili && (nat_le had asked || block_length == 0) then done bytes
    else ended (of_other_length (residue asked had)) bytes

abbrev pub read_of : (sili : Bool) → (block_length asked : ℕ) → Option Object → Outcome
read_of sili block_length asked None = ended (at_end_of_data asked) []
read_of sili block_length asked (Some Mark) = ended (at_mark asked) []
read_of sili block_length asked (Some (Block bytes)) = one_block sili block_length asked (length bytes) (take asked bytes)

abbrev pub reads : (sili : Bool) → (block_length asked : ℕ) → TapeView → TapeView × Outcome
reads sili block_length asked t = (passed (object_at t) t, read_of sili block_length asked (object_at t))

-- the blocks of one size that come first, at most so many
abbrev pub run : (size : ℕ) → List Object → (count : ℕ) → List Object
run size objects zero = []
run size [] (suc count) = []
run size (Mark ∷ objects) (suc count) = []
run size (Block bytes ∷ objects) (suc count) = if length bytes == size then Block bytes ∷ run size objects count else []

abbrev pub bytes_of_object : Object → List ℕ
bytes_of_object Mark = []
bytes_of_object (Block bytes) = bytes

abbrev pub behind_run : TapeView → List Object → TapeView
behind_run t blocks = moved_to t (t.position + length blocks)

-- the object that ended a run short of what was asked for; it is passed too
abbrev pub ended_by : TapeView → (count : ℕ) → List Object → Option Item
ended_by t count blocks = if length blocks == count then None else Some (item_of (object_at (behind_run t blocks)))

abbrev pub after_run : TapeView → (count : ℕ) → List Object → TapeView
after_run t count blocks =
    if length blocks == count then behind_run t blocks else passed (object_at (behind_run t blocks)) (behind_run t blocks)

abbrev pub end_of_run : (left : ℕ) → Option Item → List ℕ → Outcome
end_of_run left None bytes = done bytes
end_of_run left (Some item.End) bytes = ended (at_end_of_data left) bytes
end_of_run left (Some item.Mark) bytes = ended (at_mark left) bytes
end_of_run left (Some (item.Block had)) bytes = ended (of_other_length left) bytes

abbrev pub reads_run : TapeView → (count : ℕ) → List Object → TapeView × Outcome
reads_run t count blocks =
    (after_run t count blocks, end_of_run (count - length blocks) (ended_by t count blocks) (flat_map bytes_of_object blocks))

-- so many blocks of the size of the mode
abbrev pub reads_fixed : (size count : ℕ) → TapeView → TapeView × Outcome
reads_fixed size count t = reads_run t count (run size (ahead t) count)

-- WRITING. What doesn't fit isn't written, and nothing is dropped; INFORMATION is the length or count of the command.
abbrev pub wrote : TapeView → (told : ℕ) → Result TapeView TapeFault → TapeView × Outcome
wrote t told (Ok new) = (new, done [])
wrote t told (Err fault) = (t, ended (past_the_end told) [])

abbrev pub unless_protected : (protected : Bool) → TapeView → TapeView × Outcome → TapeView × Outcome
unless_protected protected t step = if protected then (t, refused WriteProtected) else step

-- a length or count of nothing is GOOD, also on a protected volume
abbrev pub unless_nothing : (told : ℕ) → TapeView → TapeView × Outcome → TapeView × Outcome
unless_nothing told t step = if told == 0 then (t, done []) else step

-- a transfer in blocks of the mode's length: it has one, and isn't too long
abbrev pub is_fixed_transfer : Profile → (block_length count : ℕ) → Bool
is_fixed_transfer profile block_length count = not (block_length == 0) && nat_le (count * block_length) (most_block profile)

-- POSITIONING
abbrev pub stopped : (left : ℕ) → Stop → Outcome
stopped left Done = done []
stopped left AtMark = ended (at_mark left) []
stopped left AtEnd = ended (at_end_of_data left) []
stopped left AtStart = ended (at_beginning left) []

abbrev pub space_ended : (told : ℕ) → TapeView × SpaceEnd → TapeView × Outcome
space_ended told moved = (moved.0, stopped (told - moved.1.moved) moved.1.stop)

abbrev pub space_code : ℕ → SpaceCode
space_code code = if code == 0 then Blocks else if code == 1 then Marks else EndOfData

-- past the end of data it is the end of data that is stood at
abbrev pub locates : (object : ℕ) → TapeView → TapeView × Outcome
locates object t = (located t object, if nat_le object (length t.objects) then done [] else refused EndOfDataDetected)

abbrev pub four : ℕ → List ℕ
four n = n / 2 ^ 24 % 256 ∷ n / 2 ^ 16 % 256 ∷ n / 2 ^ 8 % 256 ∷ n % 256 ∷ []

-- the short form of READ POSITION: BOP, then the position as the first and the last logical object location
abbrev pub position_data : ℕ → List ℕ
position_data position = (if position == 0 then 0x80 else 0x00) ∷ replicate 3 0 ++ four position ++ four position ++ replicate 8 0

-- A COMMAND ON THE TAPE of a volume that is loaded, with the data sent with it, in a drive of a profile. A command that isn't of a tape isn't
-- one of a drive.
abbrev pub on_tape : Profile → (block_length : ℕ) → (protected : Bool) → TapeView → Request → List ℕ → TapeView × Outcome
on_tape profile block_length protected t TestUnitReady bytes = (t, done [])
on_tape profile block_length protected t Rewind bytes = (moved_to t 0, done [])
on_tape profile block_length protected t (Read sili false asked) bytes = unless_nothing asked t (reads sili block_length asked t)
on_tape profile block_length protected t (Read sili true count) bytes =
    if is_fixed_transfer profile block_length count then unless_nothing count t (reads_fixed block_length count t)
    else (t, refused InvalidFieldInCdb)
on_tape profile block_length protected t (Write false asked) bytes =
    unless_nothing asked t (unless_protected protected t (wrote t asked (writes_block profile t bytes)))
on_tape profile block_length protected t (Write true count) bytes =
    if is_fixed_transfer profile block_length count && length bytes == count * block_length
    then unless_nothing count t (unless_protected protected t (wrote t count (writes_blocks profile t bytes block_length)))
    else (t, refused InvalidFieldInCdb)
on_tape profile block_length protected t (WriteFilemarks wsmk immed count) bytes =
    unless_nothing count t (unless_protected protected t (wrote t count (writes_marks profile t count)))
on_tape profile block_length protected t (Space code count) bytes = space_ended (unsigned_abs count) (spaced (space_code code) t count)
on_tape profile block_length protected t Erase bytes = unless_protected protected t (erased t, done [])
on_tape profile block_length protected t (Locate bt cp object partition) bytes = locates object t
on_tape profile block_length protected t ReadPosition bytes = (t, done (position_data t.position))
on_tape profile block_length protected t request bytes = (t, refused InvalidCommandOperationCode)

abbrev pub in_volume : DriveView → Volume → TapeView × Outcome → DriveView × Outcome
in_volume d v step = (record d { bay = Some (record v { tape = step.0 }) }, step.1)

-- NOT READY without a volume, and with one that isn't loaded
abbrev pub in_bay : DriveView → Option Volume → Request → List ℕ → DriveView × Outcome
in_bay d None request bytes = (d, refused MediumNotPresent)
in_bay d (Some v) request bytes =
    if d.loaded then in_volume d v (on_tape Spec d.block_length v.protected v.tape request bytes) else (d, refused InitializingCommandRequired)

abbrev pub rewound : Volume → Volume
rewound v = record v { tape = moved_to v.tape 0 }

abbrev pub is_protected : Option Volume → Bool
is_protected None = false
is_protected (Some v) = v.protected

-- LOAD UNLOAD rewinds either way, also a volume that is as asked for already
abbrev pub loads : DriveView → Option Volume → (load : Bool) → DriveView × Outcome
loads d None load = (d, refused MediumNotPresent)
loads d (Some v) load = (record d { bay = Some (rewound v); loaded = load }, done [])

-- MODE SELECT
abbrev pub selects : DriveView → (block_length : ℕ) → DriveView × Outcome
selects d block_length = (record d { block_length = block_length }, set (not (block_length == d.block_length)))

-- the data of READ BLOCK LIMITS: no granularity, and blocks of one byte at least (SSC-4, "READ BLOCK LIMITS command")
abbrev pub block_limits : Profile → List ℕ
block_limits Spec = 0x00 ∷ 0x01 ∷ 0x00 ∷ 0x00 ∷ 0x00 ∷ 0x01 ∷ []
block_limits Hosts = 0x00 ∷ 0x10 ∷ 0x00 ∷ 0x00 ∷ 0x00 ∷ 0x01 ∷ []

-- THE STEP of a drive of the default profile by a command whose fields aren't refused
abbrev pub drive_step : DriveView → Request → List ℕ → DriveView × Outcome
drive_step d ReadBlockLimits bytes = (d, done (block_limits Spec))
drive_step d (ModeSelect sp list_length) bytes = selects d (block_length_after d.block_length list_length bytes)
drive_step d (ModeSense dbd page_control page subpage allocation_length) bytes =
    (d, done (take allocation_length (mode_data (is_protected d.bay) dbd d.block_length)))
drive_step d (LoadUnload hold eot load) bytes = loads d d.bay load
drive_step d request bytes = in_bay d d.bay request bytes

-- a reset of the unit: what is loaded stays so; in the hosts' profile compression is on
abbrev pub drive_reset : DriveView → DriveView
drive_reset d =
    record {
      bay = elim d.bay [ None ↦ None | Some v ↦ Some (rewound v) ];
      loaded = d.loaded;
      block_length = 0;
      hosts = option_map (λ (h : HostDrive). record h { compression = true }) d.hosts;
    }
