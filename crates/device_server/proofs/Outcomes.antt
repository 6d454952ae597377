-- How a device ends a command: GOOD or CHECK CONDITION, and with something that the others are told only where it is a MODE SELECT that is GOOD.
use Rattle.std.proofs.Common.{◌≡◌, ℕ, Bool, true, false, List, [], Option, Some, None, Result, Ok, Err, refl, ◌∙◌, inl, inr}
use Rattle.std.specs.Prelude.{cond, not, take, length, ◌==◌, ◌||◌, ◌&&◌, ◌-◌, ◌*◌, nat_le, unsigned_abs}
use Rattle.std.specs.List.{flat_map}
use Rattle.std.specs.Option.{option_map}
use Rattle.scsi_cdb.specs.declared.host_request.HostRequest.{HostRequest}
use Rattle.scsi_cdb.specs.declared.host_request.HostRequest.TheVariants as host
use Rattle.scsi_cdb.specs.declared.kind.Kind.TheVariants.{Drive as drive_kind, Changer as changer_kind}
use Rattle.scsi_cdb.specs.declared.profile.Profile.{Profile}
use Rattle.scsi_cdb.specs.declared.profile.Profile.TheVariants.{Spec, Hosts}
use Rattle.scsi_cdb.specs.declared.request.Request.{Request}
use Rattle.scsi_cdb.specs.declared.request.Request.TheVariants as request
use Rattle.scsi_cdb.specs.Classes.{class_of}
use Rattle.scsi_sense.specs.declared.condition.Condition.{Condition}
use Rattle.scsi_sense.specs.declared.condition.Condition.TheVariants.{MediumNotPresent, InitializingCommandRequired, InvalidFieldInCdb, InvalidCommandOperationCode, WriteProtected, EndOfDataDetected, InternalTargetFailure, InvalidElementAddress}
use Rattle.scsi_sense.specs.declared.sense.Sense.{Sense}
use Rattle.scsi_sense.specs.declared.status.Status.TheVariants.{Good}
use Rattle.tape_medium.specs.declared.elements.MapFault.{MapFault}
use Rattle.tape_medium.specs.Elements.{Elements, moves, move_refusal}
use Rattle.tape_medium.specs.ElementStatus.{element_status}
use Rattle.tape_medium.specs.Limits.{most_block}
use Rattle.tape_medium.specs.Object.{Object, Block, Mark}
use Rattle.tape_medium.specs.TapeView.{TapeView}
use Rattle.tape_medium.specs.Tape.{ahead, object_at, erased, writes_block, writes_blocks, writes_marks}
use Rattle.tape_medium.specs.Space.{spaced}
use Rattle.tape_medium.specs.declared.fault.TapeFault.{TapeFault}
use Rattle.tape_medium.specs.declared.item.Item.{Item}
use Rattle.tape_medium.specs.declared.item.Item.TheVariants as item
use Rattle.tape_medium.specs.declared.space.Stop.{Stop}
use Rattle.tape_medium.specs.declared.space.Stop.TheVariants.{Done, AtMark, AtEnd, AtStart}
use Rattle.tape_medium.specs.declared.volume.Volume.{Volume}
use Rattle.element_map.specs.Exchange.{exchange_refusal, exchanges}
use Rattle.element_sources.specs.HostStatus.{host_status}
use Rattle.mode_pages.specs.ChangerData.{changer_answer}
use Rattle.mode_pages.specs.DriveData.{drive_answer}
use Rattle.mode_pages.specs.Select as mode
use Rattle.mode_pages.specs.declared.request.HeaderForm.TheVariants.{Six, Ten}
use Rattle.mode_pages.specs.declared.values.ModeValues.{ModeValues}
use Rattle.log_pages.specs.Counters.{is_reset}
use Rattle.log_pages.specs.LogSelect as log
use Rattle.log_pages.specs.LogSense.{drive_log_data, changer_log_data}
use Rattle.log_pages.specs.declared.change.LogChange.{LogChange}
use Rattle.supported_commands.specs.Options.{options_at}
use Rattle.supported_commands.specs.TaskManagement.{task_management}
use Rattle.unit_attention.specs.declared.kind.Kind.{Kind}
use Rattle.unit_attention.specs.declared.kind.Kind.TheVariants.{MediumChanged, ModeParametersChanged, LogParametersChanged}
use Rattle.device_server.specs.declared.host_changer.HostChanger.{HostChanger}
use Rattle.device_server.specs.declared.host_drive.HostDrive.{HostDrive}
use Rattle.device_server.specs.declared.outcome.Outcome.{Outcome}
use Rattle.device_server.specs.EarlyWarning.{early_warning, is_warned, warned}
use Rattle.device_server.specs.Outcomes.{done, tells, ended, refused, answers}
use Rattle.device_server.specs.Drive.{DriveView, read_of, reads, run, bytes_of_object, ended_by, end_of_run, reads_fixed, wrote, unless_protected, unless_nothing, is_fixed_transfer, stopped, space_code, position_data, on_tape, in_volume, in_bay, loads, drive_step}
use Rattle.device_server.specs.Mode.{block_length_after}
use Rattle.device_server.specs.Changer.{changer_mode_data, moved_alone, carried, changer_step}
use Rattle.device_server.specs.Hosts.{mode_sense, log_sense, log_select, codes_answer}
use Rattle.device_server.specs.HostChanger.{ChangerView, host_moved_alone, host_carried, status_asked, addresses_of, can_hold, changer_log_selected, host_exchanged_alone, host_exchanged, changer_command_step, host_changer_step}
use Rattle.device_server.specs.HostDrive.{mode_of, mode_state, is_other_mode, host_selects, host_loads, not_ready, host_position_data, host_on_tape, host_in_volume, host_in_bay, drive_log, host_log_selects, host_command_step, host_drive_step}
use Rattle.device_server.specs.View.{DeviceView, Drive, Changer, profile_by, profile_of, field_fault, drive_stepped, changer_stepped, stepped, performed}
use Rattle.device_server.specs.Ends.{IsEnded, told_by, IsOwn}

-- of any command but MODE SELECT
record IsOrdinary (o : Outcome) : Type 0 where
  ended : IsEnded o
  steady : o.told ≡ None

absurd_told : (o : Option Kind) (kind : Kind) (A : Type 0) → o ≡ None → o ≡ Some kind → A
absurd_told None kind A steady e = absurd cc
absurd_told (Some other) kind A steady e = absurd cc

own : (p : Profile) (r : Request) (o : Outcome) → IsOrdinary o → IsOwn p r o
own p r o h = record { ended = h.ended; told = λ kind e. absurd_told o.told kind ((told_by p (class_of r) ≡ Some kind) × (o.status ≡ Good)) h.steady e }

-- a command that tells something, or nothing
if_told : (b : Bool) (one kind : Kind) (of_class : Option Kind) → of_class ≡ Some one → cond b (Some one) None ≡ Some kind → of_class ≡ Some kind
if_told true one kind of_class is e = is ∙ e
if_told false one kind of_class is e = absurd cc

tells_own : (p : Profile) (r : Request) (b : Bool) (one : Kind) → told_by p (class_of r) ≡ Some one → IsOwn p r (tells (cond b (Some one) None))
tells_own p r b one is = record { ended = inl (refl, refl); told = λ kind e. (if_told b one kind (told_by p (class_of r)) is e, refl) }

done_is : (payload : List ℕ) → IsOrdinary (done payload)
done_is payload = record { ended = inl (refl, refl); steady = refl }

ended_is : (sense : Sense) (payload : List ℕ) → IsOrdinary (ended sense payload)
ended_is sense payload = record { ended = inr (refl, refl); steady = refl }

refused_is : (condition : Condition) → IsOrdinary (refused condition)
refused_is condition = record { ended = inr (refl, refl); steady = refl }

either : (b : Bool) (x y : Outcome) → IsOrdinary x → IsOrdinary y → IsOrdinary (cond b x y)
either true x y p q = p
either false x y p q = q

-- the same beside a tape, and a drive
abbrev Steps : {A : Type 0} → A × Outcome → Type 0
Steps x = IsOrdinary x.1

either_step : {A : Type 0} (b : Bool) (x y : A × Outcome) → Steps x → Steps y → Steps (cond b x y)
either_step true x y p q = p
either_step false x y p q = q

read_is : (sili : Bool) (m asked : ℕ) (o : Option Object) → IsOrdinary (read_of sili m asked o)
read_is sili m asked None = ended_is _ []
read_is sili m asked (Some Mark) = ended_is _ []
read_is sili m asked (Some (Block bytes)) =
    either (length bytes == asked || sili && (nat_le (length bytes) asked || m == 0)) (done (take asked bytes)) _ (done_is (take asked bytes)) (ended_is _ (take asked bytes))

run_is : (left : ℕ) (o : Option Item) (bytes : List ℕ) → IsOrdinary (end_of_run left o bytes)
run_is left None bytes = done_is bytes
run_is left (Some item.End) bytes = ended_is _ bytes
run_is left (Some item.Mark) bytes = ended_is _ bytes
run_is left (Some (item.Block had)) bytes = ended_is _ bytes

wrote_is : (t : TapeView) (told : ℕ) (r : Result TapeView TapeFault) → Steps (wrote t told r)
wrote_is t told (Ok new) = done_is []
wrote_is t told (Err fault) = ended_is _ []

guarded_is : (protected : Bool) (t : TapeView) (x : TapeView × Outcome) → Steps x → Steps (unless_protected protected t x)
guarded_is protected t x h = either_step protected (t, refused WriteProtected) x (refused_is WriteProtected) h

some_is : (told : ℕ) (t : TapeView) (x : TapeView × Outcome) → Steps x → Steps (unless_nothing told t x)
some_is told t x h = either_step (told == 0) (t, done []) x (done_is []) h

stopped_is : (left : ℕ) (stop : Stop) → IsOrdinary (stopped left stop)
stopped_is left Done = done_is []
stopped_is left AtMark = ended_is _ []
stopped_is left AtEnd = ended_is _ []
stopped_is left AtStart = ended_is _ []

writing_is : (protected : Bool) (t : TapeView) (told : ℕ) (r : Result TapeView TapeFault) → Steps (unless_nothing told t (unless_protected protected t (wrote t told r)))
writing_is protected t told r = some_is told t (unless_protected protected t (wrote t told r)) (guarded_is protected t (wrote t told r) (wrote_is t told r))

fixed_is : (m count : ℕ) (t : TapeView) → Steps (reads_fixed m count t)
fixed_is m count t =
    let blocks = run m (ahead t) count in
    run_is (count - length blocks) (ended_by t count blocks) (flat_map bytes_of_object blocks)

transfer_is : (fits : Bool) (t : TapeView) (x : TapeView × Outcome) → Steps x → Steps (cond fits x (t, refused InvalidFieldInCdb))
transfer_is fits t x h = either_step fits x (t, refused InvalidFieldInCdb) h (refused_is InvalidFieldInCdb)

tape_is : (p : Profile) (m : ℕ) (protected : Bool) (t : TapeView) (r : Request) (bytes : List ℕ) → Steps (on_tape p m protected t r bytes)
tape_is p m protected t request.TestUnitReady bytes = done_is []
tape_is p m protected t request.Rewind bytes = done_is []
tape_is p m protected t (request.RequestSense desc l) bytes = refused_is InvalidCommandOperationCode
tape_is p m protected t request.ReadBlockLimits bytes = refused_is InvalidCommandOperationCode
tape_is p m protected t request.InitializeElementStatus bytes = refused_is InvalidCommandOperationCode
tape_is p m protected t (request.Read sili false asked) bytes = some_is asked t (reads sili m asked t) (read_is sili m asked (object_at t))
tape_is p m protected t (request.Read sili true count) bytes =
    transfer_is (is_fixed_transfer p m count) t (unless_nothing count t (reads_fixed m count t)) (some_is count t (reads_fixed m count t) (fixed_is m count t))
tape_is p m protected t (request.Write false asked) bytes = writing_is protected t asked (writes_block p t bytes)
tape_is p m protected t (request.Write true count) bytes =
    transfer_is (is_fixed_transfer p m count && length bytes == count * m) t (unless_nothing count t (unless_protected protected t (wrote t count (writes_blocks p t bytes m)))) (writing_is protected t count (writes_blocks p t bytes m))
tape_is p m protected t (request.WriteFilemarks wsmk immed count) bytes = writing_is protected t count (writes_marks p t count)
tape_is p m protected t (request.Space code count) bytes =
    let moved = spaced (space_code code) t count in
    stopped_is (unsigned_abs count - moved.1.moved) moved.1.stop
tape_is p m protected t (request.Inquiry evpd page l) bytes = refused_is InvalidCommandOperationCode
tape_is p m protected t (request.ModeSelect sp l) bytes = refused_is InvalidCommandOperationCode
tape_is p m protected t request.Erase bytes = guarded_is protected t (erased t, done []) (done_is [])
tape_is p m protected t (request.ModeSense dbd pc page subpage l) bytes = refused_is InvalidCommandOperationCode
tape_is p m protected t (request.LoadUnload hold eot load) bytes = refused_is InvalidCommandOperationCode
tape_is p m protected t (request.PreventAllowMediumRemoval prevent) bytes = refused_is InvalidCommandOperationCode
tape_is p m protected t (request.Locate bt cp object partition) bytes = either (nat_le object (length t.objects)) (done []) (refused EndOfDataDetected) (done_is []) (refused_is EndOfDataDetected)
tape_is p m protected t request.ReadPosition bytes = done_is (position_data t.position)
tape_is p m protected t (request.PersistentReserveIn action l) bytes = refused_is InvalidCommandOperationCode
tape_is p m protected t (request.PersistentReserveOut action scope_type l) bytes = refused_is InvalidCommandOperationCode
tape_is p m protected t (request.ReportLuns select l) bytes = refused_is InvalidCommandOperationCode
tape_is p m protected t (request.MoveMedium transport source destination invert) bytes = refused_is InvalidCommandOperationCode
tape_is p m protected t (request.ReadElementStatus voltag type_code start count curdata dvcid l) bytes = refused_is InvalidCommandOperationCode
tape_is p m protected t (request.Host command) bytes = refused_is InvalidCommandOperationCode

warned_is : (told : ℕ) (x : TapeView × Outcome) → Steps x → Steps (warned told x)
warned_is told x h = either_step (is_warned told x.1.status x.0) (x.0, ended early_warning []) x (ended_is early_warning []) h

host_tape_is : (m : ℕ) (protected : Bool) (t : TapeView) (r : Request) (bytes : List ℕ) → Steps (host_on_tape m protected t r bytes)
host_tape_is m protected t (request.Write fixed told) bytes =
    let r = request.Write fixed told in
    warned_is told (on_tape Hosts m protected t r bytes) (tape_is Hosts m protected t r bytes)
host_tape_is m protected t (request.WriteFilemarks wsmk immed count) bytes =
    let r = request.WriteFilemarks wsmk immed count in
    warned_is count (on_tape Hosts m protected t r bytes) (tape_is Hosts m protected t r bytes)
host_tape_is m protected t request.ReadPosition bytes = done_is (host_position_data t)
host_tape_is m protected t r bytes = tape_is Hosts m protected t r bytes

bay_is : (d : DriveView) (o : Option Volume) (r : Request) (bytes : List ℕ) → Steps (in_bay d o r bytes)
bay_is d None r bytes = refused_is MediumNotPresent
bay_is d (Some v) r bytes =
    either_step d.loaded (in_volume d v (on_tape Spec d.block_length v.protected v.tape r bytes)) (d, refused InitializingCommandRequired) (tape_is Spec d.block_length v.protected v.tape r bytes) (refused_is InitializingCommandRequired)

loads_is : (d : DriveView) (o : Option Volume) (load : Bool) → Steps (loads d o load)
loads_is d None load = refused_is MediumNotPresent
loads_is d (Some v) load = done_is []

by_bay : (d : DriveView) (r : Request) (bytes : List ℕ) → IsOwn Spec r (in_bay d d.bay r bytes).1
by_bay d r bytes = own Spec r (in_bay d d.bay r bytes).1 (bay_is d d.bay r bytes)

drive_own : (d : DriveView) (r : Request) (bytes : List ℕ) → IsOwn Spec r (drive_step d r bytes).1
drive_own d request.TestUnitReady bytes = by_bay d request.TestUnitReady bytes
drive_own d request.Rewind bytes = by_bay d request.Rewind bytes
drive_own d (request.RequestSense desc l) bytes = by_bay d (request.RequestSense desc l) bytes
drive_own d request.ReadBlockLimits bytes = record { ended = inl (refl, refl); told = λ kind e. absurd cc }
drive_own d request.InitializeElementStatus bytes = by_bay d request.InitializeElementStatus bytes
drive_own d (request.Read sili fixed l) bytes = by_bay d (request.Read sili fixed l) bytes
drive_own d (request.Write fixed l) bytes = by_bay d (request.Write fixed l) bytes
drive_own d (request.WriteFilemarks wsmk immed l) bytes = by_bay d (request.WriteFilemarks wsmk immed l) bytes
drive_own d (request.Space code l) bytes = by_bay d (request.Space code l) bytes
drive_own d (request.Inquiry evpd page l) bytes = by_bay d (request.Inquiry evpd page l) bytes
drive_own d (request.ModeSelect sp l) bytes =
    tells_own Spec (request.ModeSelect sp l) (not (block_length_after d.block_length l bytes == d.block_length)) ModeParametersChanged refl
drive_own d request.Erase bytes = by_bay d request.Erase bytes
drive_own d (request.ModeSense dbd pc page subpage l) bytes = record { ended = inl (refl, refl); told = λ kind e. absurd cc }
drive_own d (request.LoadUnload hold eot load) bytes = own Spec (request.LoadUnload hold eot load) (loads d d.bay load).1 (loads_is d d.bay load)
drive_own d (request.PreventAllowMediumRemoval prevent) bytes = by_bay d (request.PreventAllowMediumRemoval prevent) bytes
drive_own d (request.Locate bt cp l partition) bytes = by_bay d (request.Locate bt cp l partition) bytes
drive_own d request.ReadPosition bytes = by_bay d request.ReadPosition bytes
drive_own d (request.PersistentReserveIn action l) bytes = by_bay d (request.PersistentReserveIn action l) bytes
drive_own d (request.PersistentReserveOut action scope_type l) bytes = by_bay d (request.PersistentReserveOut action scope_type l) bytes
drive_own d (request.ReportLuns select l) bytes = by_bay d (request.ReportLuns select l) bytes
drive_own d (request.MoveMedium transport source destination invert) bytes = by_bay d (request.MoveMedium transport source destination invert) bytes
drive_own d (request.ReadElementStatus voltag type_code start count curdata dvcid l) bytes = by_bay d (request.ReadElementStatus voltag type_code start count curdata dvcid l) bytes
drive_own d (request.Host command) bytes = by_bay d (request.Host command) bytes

moved_is : (e : Elements) (r : Result Elements MapFault) → Steps (moved_alone e r)
moved_is e (Ok after) = done_is []
moved_is e (Err fault) = refused_is InternalTargetFailure

carried_is : (e : Elements) (source destination : ℕ) (o : Option MapFault) → Steps (carried e source destination o)
carried_is e source destination (Some fault) = refused_is _
carried_is e source destination None = moved_is e (moves e source destination)

changer_is : (e : Elements) (r : Request) → Steps (changer_step e r)
changer_is e request.TestUnitReady = done_is []
changer_is e request.InitializeElementStatus = done_is []
changer_is e (request.ModeSense dbd pc page subpage l) = done_is (take l (changer_mode_data e))
changer_is e (request.MoveMedium transport source destination invert) = carried_is e source destination (move_refusal e transport source destination)
changer_is e (request.ReadElementStatus voltag type_code start count curdata dvcid l) = done_is (take l (element_status e type_code start count voltag))
changer_is e r = refused_is InvalidCommandOperationCode

-- A DRIVE of the hosts' profile

answers_is : (l : ℕ) (answer : Result (List ℕ) Condition) → IsOrdinary (answers l answer)
answers_is l (Ok bytes) = done_is (take l bytes)
answers_is l (Err condition) = refused_is condition

host_bay_is : (d : DriveView) (h : HostDrive) (o : Option Volume) (r : Request) (bytes : List ℕ) → Steps (host_in_bay d h o r bytes)
host_bay_is d h None r bytes = refused_is MediumNotPresent
host_bay_is d h (Some v) r bytes =
    either_step d.loaded (host_in_volume d h v r (host_on_tape d.block_length v.protected v.tape r bytes)) (d, refused (not_ready h.held))
    (host_tape_is d.block_length v.protected v.tape r bytes) (refused_is (not_ready h.held))

host_loads_own : (r : Request) → told_by Hosts (class_of r) ≡ Some MediumChanged → (d : DriveView) (h : HostDrive) (o : Option Volume) (hold load : Bool)
    → IsOwn Hosts r (host_loads d h o hold load).1
host_loads_own r is d h None hold load = own Hosts r (refused MediumNotPresent) (refused_is MediumNotPresent)
host_loads_own r is d h (Some v) hold load = tells_own Hosts r (load && not d.loaded) MediumChanged is

selects_own : (r : Request) → told_by Hosts (class_of r) ≡ Some ModeParametersChanged → (d : DriveView) (h : HostDrive) (values : Result ModeValues Condition)
    → IsOwn Hosts r (host_selects d h values).1
selects_own r is d h (Ok values) = tells_own Hosts r (is_other_mode (mode_of d h) values) ModeParametersChanged is
selects_own r is d h (Err condition) = own Hosts r (refused condition) (refused_is condition)

log_selects_own : (r : Request) → told_by Hosts (class_of r) ≡ Some LogParametersChanged → (d : DriveView) (h : HostDrive) (change : Result LogChange Condition)
    → IsOwn Hosts r (host_log_selects d h change).1
log_selects_own r is d h (Ok change) = tells_own Hosts r (is_reset change) LogParametersChanged is
log_selects_own r is d h (Err condition) = own Hosts r (refused condition) (refused_is condition)

host_command_own : (d : DriveView) (h : HostDrive) (command : HostRequest) (bytes : List ℕ) → IsOwn Hosts (request.Host command) (host_command_step d h command bytes).1
host_command_own d h (host.SendDiagnostic code test l) bytes = own Hosts _ (done []) (done_is [])
host_command_own d h (host.LogSelect pcr sp pc page subpage l) bytes =
    log_selects_own (request.Host (host.LogSelect pcr sp pc page subpage l)) refl d h (log.selected drive_kind (log_select pcr sp page subpage l) (length bytes))
host_command_own d h (host.LogSense ppc sp pc page subpage pointer l) bytes =
    own Hosts _ _ (answers_is l (drive_log_data (log_sense ppc sp page subpage pointer) (drive_log d h)))
host_command_own d h (host.ModeSelect10 sp l) bytes =
    selects_own (request.Host (host.ModeSelect10 sp l)) refl d h (mode.selected (mode_of d h) (most_block Hosts) Ten sp l bytes)
host_command_own d h (host.ModeSense10 dbd pc page subpage l) bytes =
    own Hosts _ _ (answers_is l (drive_answer (mode_sense Ten dbd pc page subpage) (mode_state d h)))
host_command_own d h (host.ReportSupportedOperationCodes rctd options code action l) bytes =
    own Hosts _ _ (answers_is l (codes_answer drive_kind rctd (options_at options) code action))
host_command_own d h (host.ReportSupportedTaskManagementFunctions repd l) bytes = own Hosts _ _ (done_is (take l (task_management repd)))
host_command_own d h (host.PositionToElement transport destination invert) bytes = own Hosts _ _ (refused_is InvalidCommandOperationCode)
host_command_own d h (host.ExchangeMedium transport source first second inv1 inv2) bytes = own Hosts _ _ (refused_is InvalidCommandOperationCode)
host_command_own d h (host.InitializeElementStatusWithRange fast range start count) bytes = own Hosts _ _ (refused_is InvalidCommandOperationCode)

host_drive_own : (d : DriveView) (h : HostDrive) (r : Request) (bytes : List ℕ) → IsOwn Hosts r (host_drive_step d h r bytes).1
host_drive_own d h request.ReadBlockLimits bytes = own Hosts request.ReadBlockLimits _ (done_is _)
host_drive_own d h (request.ModeSelect sp l) bytes = selects_own (request.ModeSelect sp l) refl d h (mode.selected (mode_of d h) (most_block Hosts) Six sp l bytes)
host_drive_own d h (request.ModeSense dbd pc page subpage l) bytes =
    own Hosts (request.ModeSense dbd pc page subpage l) _ (answers_is l (drive_answer (mode_sense Six dbd pc page subpage) (mode_state d h)))
host_drive_own d h (request.LoadUnload hold eot load) bytes = host_loads_own (request.LoadUnload hold eot load) refl d h d.bay hold load
host_drive_own d h (request.Host command) bytes = host_command_own d h command bytes
host_drive_own d h r bytes = own Hosts r (host_in_bay d h d.bay r bytes).1 (host_bay_is d h d.bay r bytes)

-- A CHANGER of the hosts' profile

host_moved_is : (c : ChangerView) (h : HostChanger) (source destination : ℕ) (r : Result Elements MapFault) → Steps (host_moved_alone c h source destination r)
host_moved_is c h source destination (Ok after) = done_is []
host_moved_is c h source destination (Err fault) = refused_is InternalTargetFailure

host_carried_is : (c : ChangerView) (h : HostChanger) (source destination : ℕ) (o : Option MapFault) → Steps (host_carried c h source destination o)
host_carried_is c h source destination (Some fault) = refused_is _
host_carried_is c h source destination None = host_moved_is c h source destination (moves c.elements source destination)

changer_log_own : (r : Request) → told_by Hosts (class_of r) ≡ Some LogParametersChanged → (change : Result LogChange Condition)
    → IsOwn Hosts r (changer_log_selected change)
changer_log_own r is (Ok change) = tells_own Hosts r (is_reset change) LogParametersChanged is
changer_log_own r is (Err condition) = own Hosts r (refused condition) (refused_is condition)

host_exchanged_is : (c : ChangerView) (h : HostChanger) (source first second : ℕ) (r : Result Elements MapFault) → Steps (host_exchanged_alone c h source first second r)
host_exchanged_is c h source first second (Ok after) = done_is []
host_exchanged_is c h source first second (Err fault) = refused_is InternalTargetFailure

host_exchange_is : (c : ChangerView) (h : HostChanger) (source first second : ℕ) (o : Option MapFault) → Steps (host_exchanged c h source first second o)
host_exchange_is c h source first second (Some fault) = refused_is _
host_exchange_is c h source first second None = host_exchanged_is c h source first second (exchanges c.elements source first second)

changer_command_own : (c : ChangerView) (h : HostChanger) (command : HostRequest) (bytes : List ℕ) → IsOwn Hosts (request.Host command) (changer_command_step c h command bytes).1
changer_command_own c h (host.SendDiagnostic code test l) bytes = own Hosts _ (done []) (done_is [])
changer_command_own c h (host.LogSelect pcr sp pc page subpage l) bytes =
    changer_log_own (request.Host (host.LogSelect pcr sp pc page subpage l)) refl (log.selected changer_kind (log_select pcr sp page subpage l) (length bytes))
changer_command_own c h (host.LogSense ppc sp pc page subpage pointer l) bytes =
    own Hosts _ _ (answers_is l (changer_log_data (log_sense ppc sp page subpage pointer)))
changer_command_own c h (host.ModeSelect10 sp l) bytes = own Hosts _ _ (refused_is InvalidCommandOperationCode)
changer_command_own c h (host.ModeSense10 dbd pc page subpage l) bytes =
    own Hosts _ _ (answers_is l (changer_answer (mode_sense Ten dbd pc page subpage) (addresses_of c.elements)))
changer_command_own c h (host.ReportSupportedOperationCodes rctd options code action l) bytes =
    own Hosts _ _ (answers_is l (codes_answer changer_kind rctd (options_at options) code action))
changer_command_own c h (host.ReportSupportedTaskManagementFunctions repd l) bytes = own Hosts _ _ (done_is (take l (task_management repd)))
changer_command_own c h (host.PositionToElement transport destination invert) bytes =
    own Hosts _ _ (either (transport == 0 && can_hold c.elements destination) (done []) (refused InvalidElementAddress) (done_is []) (refused_is InvalidElementAddress))
changer_command_own c h (host.InitializeElementStatusWithRange fast range start count) bytes = own Hosts _ _ (done_is [])
changer_command_own c h (host.ExchangeMedium transport source first second inv1 inv2) bytes =
    own Hosts _ _ (host_exchange_is c h source first second (exchange_refusal c.elements transport source first second))

host_changer_own : (c : ChangerView) (h : HostChanger) (r : Request) (bytes : List ℕ) → IsOwn Hosts r (host_changer_step c h r bytes).1
host_changer_own c h request.TestUnitReady bytes = own Hosts request.TestUnitReady _ (done_is [])
host_changer_own c h request.InitializeElementStatus bytes = own Hosts request.InitializeElementStatus _ (done_is [])
host_changer_own c h (request.ModeSense dbd pc page subpage l) bytes =
    own Hosts (request.ModeSense dbd pc page subpage l) _ (answers_is l (changer_answer (mode_sense Six dbd pc page subpage) (addresses_of c.elements)))
host_changer_own c h (request.MoveMedium transport source destination invert) bytes =
    own Hosts (request.MoveMedium transport source destination invert) _ (host_carried_is c h source destination (move_refusal c.elements transport source destination))
host_changer_own c h (request.ReadElementStatus voltag type_code start count curdata dvcid l) bytes =
    own Hosts (request.ReadElementStatus voltag type_code start count curdata dvcid l) _
    (done_is (take l (host_status c.elements h.sources h.identity.library_number (status_asked voltag type_code start count dvcid))))
host_changer_own c h (request.Host command) bytes = changer_command_own c h command bytes
host_changer_own c h r bytes = own Hosts r (refused InvalidCommandOperationCode) (refused_is InvalidCommandOperationCode)

-- BY THE PROFILE

drive_stepped_own : (o : Option HostDrive) (d : DriveView) (r : Request) (bytes : List ℕ)
    → IsOwn (profile_by (option_map (λ (h : HostDrive). h.identity) o)) r (drive_stepped o d r bytes).1
drive_stepped_own None d r bytes = drive_own d r bytes
drive_stepped_own (Some h) d r bytes = host_drive_own d h r bytes

changer_stepped_own : (o : Option HostChanger) (c : ChangerView) (r : Request) (bytes : List ℕ)
    → IsOwn (profile_by (option_map (λ (h : HostChanger). h.identity) o)) r (changer_stepped o c r bytes).1
changer_stepped_own None c r bytes = own Spec r (changer_step c.elements r).1 (changer_is c.elements r)
changer_stepped_own (Some h) c r bytes = host_changer_own c h r bytes

stepped_own : (d : DeviceView) (r : Request) (bytes : List ℕ) → IsOwn (profile_of d) r (stepped d r bytes).1
unfolding profile_of
stepped_own (Drive d) r bytes = drive_stepped_own d.hosts d r bytes
stepped_own (Changer c) r bytes = changer_stepped_own c.hosts c r bytes

pub performed_own : (d : DeviceView) (r : Request) (bytes : List ℕ) → IsOwn (profile_of d) r (performed d r bytes).1
performed_own d r bytes =
    elim (field_fault d r bytes) as (λ (o : Option Condition). let step : DeviceView × Outcome = elim o [ Some condition ↦ (d, refused condition) | None ↦ stepped d r bytes ] in IsOwn (profile_of d) r step.1) [
      | Some condition ↦ own (profile_of d) r (refused condition) (refused_is condition)
      | None ↦ stepped_own d r bytes
    ]
