-- Which commands a device ends by 44h/00h.
use Rattle.std.proofs.Common.{◌≡◌, ℕ, Bool, true, false, List, [], Option, Some, None, Result, Ok, Err, refl, sym, ap, ◌∙◌, subst}
use Rattle.std.specs.Prelude.{cond, take, length, ◌==◌, ◌||◌, ◌&&◌, ◌-◌, ◌*◌, is_none, is_some, nat_le, unsigned_abs, slice_index_or}
use Rattle.std.specs.List.{flat_map}
use Rattle.scsi_cdb.specs.declared.host_request.HostRequest.{HostRequest}
use Rattle.scsi_cdb.specs.declared.host_request.HostRequest.TheVariants as host
use Rattle.scsi_cdb.specs.declared.kind.Kind.{Kind}
use Rattle.scsi_cdb.specs.declared.kind.Kind.TheVariants.{Drive as drive_kind, Changer as changer_kind}
use Rattle.scsi_cdb.specs.declared.profile.Profile.{Profile}
use Rattle.scsi_cdb.specs.declared.profile.Profile.TheVariants.{Spec, Hosts}
use Rattle.scsi_cdb.specs.declared.request.Request.{Request}
use Rattle.scsi_cdb.specs.declared.request.Request.TheVariants as request
use Rattle.scsi_sense.specs.Conditions.{sense_for}
use Rattle.scsi_sense.specs.declared.condition.Condition.{Condition}
use Rattle.scsi_sense.specs.declared.condition.Condition.TheVariants.{InitializingCommandRequired, InvalidElementAddress, InvalidFieldInCdb, WriteProtected, EndOfDataDetected}
use Rattle.tape_medium.specs.declared.elements.MapFault.{MapFault}
use Rattle.tape_medium.specs.declared.elements.MapFault.TheVariants.{BadAddress, SourceEmpty, DestinationFull}
use Rattle.tape_medium.specs.Elements.{Elements, Element, Transport, DataTransfer, ImportExport, Storage, Nowhere, element_at, tag_of, tag_held, held_in, moved, refusal, move_refusal}
use Rattle.tape_medium.specs.Limits.{most_block}
use Rattle.tape_medium.specs.Object.{Object, Block, Mark}
use Rattle.tape_medium.specs.TapeView.{TapeView}
use Rattle.tape_medium.specs.Tape.{ahead, object_at, erased, writes_block, writes_blocks, writes_marks}
use Rattle.tape_medium.specs.Space.{spaced}
use Rattle.tape_medium.specs.declared.fault.TapeFault.{TapeFault}
use Rattle.tape_medium.specs.declared.item.Item.{Item}
use Rattle.tape_medium.specs.declared.item.Item.TheVariants as item
use Rattle.tape_medium.specs.declared.space.Stop.{Stop}
use Rattle.tape_medium.specs.declared.space.Stop.TheVariants.{Done, AtMark, AtEnd, AtStart}
use Rattle.tape_medium.specs.declared.volume.Volume.{Volume}
use Rattle.element_map.specs.Exchange.{has_drive, exchange_refusal, exchanges}
use Rattle.mode_pages.specs.ChangerData.{changer_fault, changer_data as changer_mode_data_of}
use Rattle.mode_pages.specs.DriveData.{answered, drive_fault, drive_data as mode_data_of}
use Rattle.mode_pages.specs.declared.request.HeaderForm.TheVariants.{Six, Ten}
use Rattle.mode_pages.specs.declared.values.ModeValues.{ModeValues}
use Rattle.log_pages.specs.LogSelect as log
use Rattle.mode_pages.specs.Select as mode
use Rattle.log_pages.specs.LogSense.{why_not, drive_log_data, changer_log_data}
use Rattle.log_pages.proofs.Fields.{drives_refuse_fields, changers_refuse_fields}
use Rattle.log_pages.specs.declared.change.LogChange.{LogChange}
use Rattle.log_pages.specs.declared.drive_log.DriveLog.{DriveLog}
use Rattle.log_pages.specs.declared.log_sense.LogSense.{LogSense}
use Rattle.supported_commands.specs.Answers as codes
use Rattle.supported_commands.specs.Options.{options_at}
use Rattle.supported_commands.specs.declared.options.ReportingOptions.{ReportingOptions}
use Rattle.device_server.specs.declared.host_changer.HostChanger.{HostChanger}
use Rattle.device_server.specs.declared.host_drive.HostDrive.{HostDrive}
use Rattle.device_server.specs.declared.outcome.Outcome.{Outcome}
use Rattle.device_server.specs.EarlyWarning.{early_warning, is_warned, warned}
use Rattle.device_server.specs.Outcomes.{done, ended, refused, answers}
use Rattle.device_server.specs.Changer.{moved_alone, carried, changer_step}
use Rattle.device_server.specs.Drive.{DriveView, read_of, reads, run, bytes_of_object, ended_by, end_of_run, reads_fixed, wrote, unless_protected, unless_nothing, is_fixed_transfer, stopped, space_code, on_tape, in_volume, in_bay, loads, drive_step}
use Rattle.device_server.specs.Failures.{is_failure, is_data_transfer, is_exchange_for_drives, is_for_drives, DrivesNeverFail, ChangersFailForDrives}
use Rattle.device_server.specs.HostFields.{refusal_of}
use Rattle.device_server.specs.Hosts.{mode_sense, log_sense, log_select, codes_asked, codes_answer}
use Rattle.device_server.specs.HostChanger.{ChangerView, addresses_of, can_hold, changer_log_selected, host_exchanged_alone, host_exchanged, changer_command_step, host_changer_step}
use Rattle.device_server.specs.HostDrive.{mode_of, mode_state, host_selects, host_loads, not_ready, host_on_tape, host_in_volume, host_in_bay, drive_log, host_log_selects, host_command_step, host_drive_step}
use Rattle.device_server.specs.View.{DeviceView, Drive, Changer, commands_of, field_fault, drive_stepped, changer_stepped, stepped, performed}
use Rattle.device_server.specs.Volumes.{is_exchange, is_move}
use Rattle.device_server.proofs.FaultLemmas.{fault_fails, fails, either_answer, selected_free, mode_sense_free, log_sense_free, log_selected_free, field_free}
use Rattle.device_server.proofs.FieldLemmas.{move_performed, inverted_performed, exchange_performed, inverted_exchange}
use Rattle.device_server.proofs.ExchangeLemmas.{exchanged_alone, exchanges_done}
use Rattle.device_server.proofs.MoveLemmas.{host_carried_alike}

-- A DRIVE
abbrev IsFree : {A : Type 0} → A × Outcome → Type 0
IsFree x = is_failure x.1.sense ≡ false

either : {A : Type 0} (b : Bool) (x y : A × Outcome) → IsFree x → IsFree y → IsFree (cond b x y)
either true x y p q = p
either false x y p q = q

either_end : (b : Bool) (x y : Outcome) → is_failure x.sense ≡ false → is_failure y.sense ≡ false → is_failure (cond b x y).sense ≡ false
either_end true x y p q = p
either_end false x y p q = q

read_free : (sili : Bool) (m asked : ℕ) (o : Option Object) → is_failure (read_of sili m asked o).sense ≡ false
read_free sili m asked None = refl
read_free sili m asked (Some Mark) = refl
read_free sili m asked (Some (Block bytes)) = either_end (length bytes == asked || sili && (nat_le (length bytes) asked || m == 0)) (done (take asked bytes)) _ refl refl

run_free : (left : ℕ) (o : Option Item) (bytes : List ℕ) → is_failure (end_of_run left o bytes).sense ≡ false
run_free left None bytes = refl
run_free left (Some item.End) bytes = refl
run_free left (Some item.Mark) bytes = refl
run_free left (Some (item.Block had)) bytes = refl

wrote_free : (t : TapeView) (told : ℕ) (r : Result TapeView TapeFault) → IsFree (wrote t told r)
wrote_free t told (Ok new) = refl
wrote_free t told (Err fault) = refl

writing_free : (protected : Bool) (t : TapeView) (told : ℕ) (r : Result TapeView TapeFault) → IsFree (unless_nothing told t (unless_protected protected t (wrote t told r)))
writing_free protected t told r =
    either (told == 0) (t, done []) (unless_protected protected t (wrote t told r)) refl
    (either protected (t, refused WriteProtected) (wrote t told r) refl (wrote_free t told r))

stopped_free : (left : ℕ) (stop : Stop) → is_failure (stopped left stop).sense ≡ false
stopped_free left Done = refl
stopped_free left AtMark = refl
stopped_free left AtEnd = refl
stopped_free left AtStart = refl

fixed_free : (m count : ℕ) (t : TapeView) → IsFree (reads_fixed m count t)
fixed_free m count t =
    let blocks = run m (ahead t) count in
    run_free (count - length blocks) (ended_by t count blocks) (flat_map bytes_of_object blocks)

tape_free : (p : Profile) (m : ℕ) (protected : Bool) (t : TapeView) (r : Request) (bytes : List ℕ) → IsFree (on_tape p m protected t r bytes)
tape_free p m protected t (request.Read sili false asked) bytes = either (asked == 0) (t, done []) (reads sili m asked t) refl (read_free sili m asked (object_at t))
tape_free p m protected t (request.Read sili true count) bytes =
    either (is_fixed_transfer p m count) (unless_nothing count t (reads_fixed m count t)) (t, refused InvalidFieldInCdb)
    (either (count == 0) (t, done []) (reads_fixed m count t) refl (fixed_free m count t)) refl
tape_free p m protected t (request.Write false asked) bytes = writing_free protected t asked (writes_block p t bytes)
tape_free p m protected t (request.Write true count) bytes =
    either (is_fixed_transfer p m count && length bytes == count * m) (unless_nothing count t (unless_protected protected t (wrote t count (writes_blocks p t bytes m)))) (t, refused InvalidFieldInCdb)
    (writing_free protected t count (writes_blocks p t bytes m)) refl
tape_free p m protected t (request.WriteFilemarks wsmk immed count) bytes = writing_free protected t count (writes_marks p t count)
tape_free p m protected t (request.Space code count) bytes =
    let moved = spaced (space_code code) t count in
    stopped_free (unsigned_abs count - moved.1.moved) moved.1.stop
tape_free p m protected t request.Erase bytes = either protected (t, refused WriteProtected) (erased t, done []) refl refl
tape_free p m protected t (request.Locate bt cp object partition) bytes = either_end (nat_le object (length t.objects)) (done []) (refused EndOfDataDetected) refl refl
tape_free p m protected t r bytes = refl

warned_free : (told : ℕ) (x : TapeView × Outcome) → IsFree x → IsFree (warned told x)
warned_free told x free = either (is_warned told x.1.status x.0) (x.0, ended early_warning []) x refl free

host_tape_free : (m : ℕ) (protected : Bool) (t : TapeView) (r : Request) (bytes : List ℕ) → IsFree (host_on_tape m protected t r bytes)
host_tape_free m protected t (request.Write fixed told) bytes =
    let r = request.Write fixed told in
    warned_free told (on_tape Hosts m protected t r bytes) (tape_free Hosts m protected t r bytes)
host_tape_free m protected t (request.WriteFilemarks wsmk immed count) bytes =
    let r = request.WriteFilemarks wsmk immed count in
    warned_free count (on_tape Hosts m protected t r bytes) (tape_free Hosts m protected t r bytes)
host_tape_free m protected t request.ReadPosition bytes = refl
host_tape_free m protected t r bytes = tape_free Hosts m protected t r bytes

bay_free : (d : DriveView) (o : Option Volume) (r : Request) (bytes : List ℕ) → IsFree (in_bay d o r bytes)
bay_free d None r bytes = refl
bay_free d (Some v) r bytes =
    either d.loaded (in_volume d v (on_tape Spec d.block_length v.protected v.tape r bytes)) (d, refused InitializingCommandRequired) (tape_free Spec d.block_length v.protected v.tape r bytes) refl

loads_free : (d : DriveView) (o : Option Volume) (load : Bool) → IsFree (loads d o load)
loads_free d None load = refl
loads_free d (Some v) load = refl

drive_free : (d : DriveView) (r : Request) (bytes : List ℕ) → IsFree (drive_step d r bytes)
drive_free d request.ReadBlockLimits bytes = refl
drive_free d (request.ModeSelect sp l) bytes = refl
drive_free d (request.ModeSense dbd pc page subpage l) bytes = refl
drive_free d (request.LoadUnload hold eot load) bytes = loads_free d d.bay load
drive_free d r bytes = bay_free d d.bay r bytes

-- of the hosts' profile
answers_free : (l : ℕ) (answer : Result (List ℕ) Condition) → fails answer ≡ false → is_failure (answers l answer).sense ≡ false
answers_free l (Ok bytes) free = refl
answers_free l (Err condition) free = free

answered_free : (fault : Option Condition) (bytes : List ℕ) → fault_fails fault ≡ false → fails (answered fault bytes) ≡ false
answered_free None bytes free = refl
answered_free (Some condition) bytes free = free

same_refusal : (answer : Result (List ℕ) Condition) → refusal_of answer ≡ why_not answer
same_refusal (Ok bytes) = refl
same_refusal (Err condition) = refl

drive_log_free : (sense : LogSense) (drive : DriveLog) → fails (drive_log_data sense drive) ≡ false
drive_log_free sense drive =
    ap fault_fails (same_refusal (drive_log_data sense drive) ∙ drives_refuse_fields sense drive) ∙ log_sense_free drive_kind sense

changer_log_free : (sense : LogSense) → fails (changer_log_data sense) ≡ false
changer_log_free sense =
    ap fault_fails (same_refusal (changer_log_data sense) ∙ changers_refuse_fields sense) ∙ log_sense_free changer_kind sense

codes_answer_free : (kind : Kind) (rctd : Bool) (options : Option ReportingOptions) (code action : ℕ) → fails (codes_answer kind rctd options code action) ≡ false
codes_answer_free kind rctd None code action = refl
codes_answer_free kind rctd (Some options) code action =
    either_answer (codes.is_refused options (codes.command_with_code kind code)) (Err InvalidFieldInCdb)
    (Ok (codes.data_for kind (codes_asked rctd options code action) options)) refl refl

selects_free : (d : DriveView) (h : HostDrive) (values : Result ModeValues Condition) → fails values ≡ false → IsFree (host_selects d h values)
selects_free d h (Ok values) free = refl
selects_free d h (Err condition) free = free

log_selects_free : (d : DriveView) (h : HostDrive) (change : Result LogChange Condition) → fails change ≡ false → IsFree (host_log_selects d h change)
log_selects_free d h (Ok change) free = refl
log_selects_free d h (Err condition) free = free

not_ready_free : (held : Bool) → is_failure (Some (sense_for (not_ready held))) ≡ false
not_ready_free true = refl
not_ready_free false = refl

host_bay_free : (d : DriveView) (h : HostDrive) (o : Option Volume) (r : Request) (bytes : List ℕ) → IsFree (host_in_bay d h o r bytes)
host_bay_free d h None r bytes = refl
host_bay_free d h (Some v) r bytes =
    either d.loaded (host_in_volume d h v r (host_on_tape d.block_length v.protected v.tape r bytes)) (d, refused (not_ready h.held))
    (host_tape_free d.block_length v.protected v.tape r bytes) (not_ready_free h.held)

host_loads_free : (d : DriveView) (h : HostDrive) (o : Option Volume) (hold load : Bool) → IsFree (host_loads d h o hold load)
host_loads_free d h None hold load = refl
host_loads_free d h (Some v) hold load = refl

host_command_free : (d : DriveView) (h : HostDrive) (command : HostRequest) (bytes : List ℕ) → IsFree (host_command_step d h command bytes)
host_command_free d h (host.SendDiagnostic code test l) bytes = refl
host_command_free d h (host.LogSelect pcr sp pc page subpage l) bytes =
    log_selects_free d h (log.selected drive_kind (log_select pcr sp page subpage l) (length bytes)) (log_selected_free drive_kind (log_select pcr sp page subpage l) (length bytes))
host_command_free d h (host.LogSense ppc sp pc page subpage pointer l) bytes =
    answers_free l (drive_log_data (log_sense ppc sp page subpage pointer) (drive_log d h)) (drive_log_free (log_sense ppc sp page subpage pointer) (drive_log d h))
host_command_free d h (host.ModeSelect10 sp l) bytes = selects_free d h (mode.selected (mode_of d h) (most_block Hosts) Ten sp l bytes) (selected_free (mode_of d h) (most_block Hosts) Ten sp l bytes)
host_command_free d h (host.ModeSense10 dbd pc page subpage l) bytes =
    let sense = mode_sense Ten dbd pc page subpage in
    answers_free l (answered (drive_fault sense) (mode_data_of sense (mode_state d h))) (answered_free (drive_fault sense) (mode_data_of sense (mode_state d h)) (mode_sense_free drive_kind sense))
host_command_free d h (host.ReportSupportedOperationCodes rctd options code action l) bytes =
    answers_free l (codes_answer drive_kind rctd (options_at options) code action) (codes_answer_free drive_kind rctd (options_at options) code action)
host_command_free d h (host.ReportSupportedTaskManagementFunctions repd l) bytes = refl
host_command_free d h (host.PositionToElement transport destination invert) bytes = refl
host_command_free d h (host.ExchangeMedium transport source first second inv1 inv2) bytes = refl
host_command_free d h (host.InitializeElementStatusWithRange fast range start count) bytes = refl

host_drive_free : (d : DriveView) (h : HostDrive) (r : Request) (bytes : List ℕ) → IsFree (host_drive_step d h r bytes)
host_drive_free d h request.ReadBlockLimits bytes = refl
host_drive_free d h (request.ModeSelect sp l) bytes = selects_free d h (mode.selected (mode_of d h) (most_block Hosts) Six sp l bytes) (selected_free (mode_of d h) (most_block Hosts) Six sp l bytes)
host_drive_free d h (request.ModeSense dbd pc page subpage l) bytes =
    let sense = mode_sense Six dbd pc page subpage in
    answers_free l (answered (drive_fault sense) (mode_data_of sense (mode_state d h))) (answered_free (drive_fault sense) (mode_data_of sense (mode_state d h)) (mode_sense_free drive_kind sense))
host_drive_free d h (request.LoadUnload hold eot load) bytes = host_loads_free d h d.bay hold load
host_drive_free d h (request.Host command) bytes = host_command_free d h command bytes
host_drive_free d h r bytes = host_bay_free d h d.bay r bytes

stepped_free : (o : Option HostDrive) (d : DriveView) (r : Request) (bytes : List ℕ) → IsFree (drive_stepped o d r bytes)
stepped_free None d r bytes = drive_free d r bytes
stepped_free (Some h) d r bytes = host_drive_free d h r bytes

-- a device whose step doesn't fail
performs_free : (device : DeviceView) (r : Request) (bytes : List ℕ) → IsFree (stepped device r bytes) → IsFree (performed device r bytes)
performs_free device r bytes free =
    elim (field_fault device r bytes) as (λ (o : Option Condition). fault_fails o ≡ false → (let step : DeviceView × Outcome = elim o [ Some condition ↦ (device, refused condition) | None ↦ stepped device r bytes ] in IsFree step)) [
      | Some condition ↦ λ fields. fields
      | None ↦ λ fields. free
    ] (field_free (commands_of device) r bytes)

pub drives_never_fail : DrivesNeverFail
drives_never_fail d r bytes = performs_free (Drive d) r bytes (stepped_free d.hosts d r bytes)

-- A CHANGER. A move between its own elements that nothing refuses is carried out
own_free : (e : Elements) (from to : Element) (x y : Option Volume) → refusal (Some (tag_of x)) (Some (tag_of y)) ≡ None → IsFree (moved_alone e (moved e from (Some x) to (Some y)))
own_free e from to None y h = absurd cc
own_free e from to (Some v) (Some w) h = absurd cc
own_free e from to (Some v) None h = refl

moved_fails : (e : Elements) (from to : Element) → refusal (tag_held e from) (tag_held e to) ≡ None
    → is_failure (moved_alone e (moved e from (held_in e from) to (held_in e to))).1.sense ≡ (is_data_transfer from || is_data_transfer to)
moved_fails e Transport to h = absurd cc
moved_fails e Nowhere to h = absurd cc
moved_fails e (DataTransfer i) to h = refl
moved_fails e (ImportExport i) Transport h = absurd cc
moved_fails e (ImportExport i) Nowhere h = absurd cc
moved_fails e (ImportExport i) (DataTransfer j) h = refl
moved_fails e (ImportExport i) (ImportExport j) h = own_free e (ImportExport i) (ImportExport j) (slice_index_or e.import_export i None) (slice_index_or e.import_export j None) h
moved_fails e (ImportExport i) (Storage j) h = own_free e (ImportExport i) (Storage j) (slice_index_or e.import_export i None) (slice_index_or e.storage j None) h
moved_fails e (Storage i) Transport h = absurd cc
moved_fails e (Storage i) Nowhere h = absurd cc
moved_fails e (Storage i) (DataTransfer j) h = refl
moved_fails e (Storage i) (ImportExport j) h = own_free e (Storage i) (ImportExport j) (slice_index_or e.storage i None) (slice_index_or e.import_export j None) h
moved_fails e (Storage i) (Storage j) h = own_free e (Storage i) (Storage j) (slice_index_or e.storage i None) (slice_index_or e.storage j None) h

moves_fail : (e : Elements) (transport : Bool) (s d : ℕ) → cond transport (refusal (tag_held e (element_at e s)) (tag_held e (element_at e d))) (Some BadAddress) ≡ None
    → is_failure (carried e s d None).1.sense ≡ (is_data_transfer (element_at e s) || is_data_transfer (element_at e d))
moves_fail e true s d h = moved_fails e (element_at e s) (element_at e d) h
moves_fail e false s d h = absurd cc

carried_fails : (e : Elements) (t s d : ℕ) (o : Option MapFault) → move_refusal e t s d ≡ o
    → is_failure (carried e s d o).1.sense ≡ (is_none o && (is_data_transfer (element_at e s) || is_data_transfer (element_at e d)))
carried_fails e t s d (Some BadAddress) h = refl
carried_fails e t s d (Some SourceEmpty) h = refl
carried_fails e t s d (Some DestinationFull) h = refl
carried_fails e t s d None h = moves_fail e (t == 0) s d h

-- of the hosts' profile
changer_log_selected_free : (change : Result LogChange Condition) → fails change ≡ false → is_failure (changer_log_selected change).sense ≡ false
changer_log_selected_free (Ok change) free = refl
changer_log_selected_free (Err condition) free = free

positioned_free : (may : Bool) → is_failure (cond may (done []) (refused InvalidElementAddress)).sense ≡ false
positioned_free true = refl
positioned_free false = refl

changer_command_free : (c : ChangerView) (h : HostChanger) (command : HostRequest) (bytes : List ℕ) → is_exchange command ≡ false → IsFree (changer_command_step c h command bytes)
changer_command_free c h (host.SendDiagnostic code test l) bytes other = refl
changer_command_free c h (host.LogSelect pcr sp pc page subpage l) bytes other =
    changer_log_selected_free (log.selected changer_kind (log_select pcr sp page subpage l) (length bytes)) (log_selected_free changer_kind (log_select pcr sp page subpage l) (length bytes))
changer_command_free c h (host.LogSense ppc sp pc page subpage pointer l) bytes other =
    answers_free l (changer_log_data (log_sense ppc sp page subpage pointer)) (changer_log_free (log_sense ppc sp page subpage pointer))
changer_command_free c h (host.ModeSelect10 sp l) bytes other = refl
changer_command_free c h (host.ModeSense10 dbd pc page subpage l) bytes other =
    let sense = mode_sense Ten dbd pc page subpage in
    answers_free l (answered (changer_fault sense) (changer_mode_data_of sense (addresses_of c.elements))) (answered_free (changer_fault sense) (changer_mode_data_of sense (addresses_of c.elements)) (mode_sense_free changer_kind sense))
changer_command_free c h (host.ReportSupportedOperationCodes rctd options code action l) bytes other =
    answers_free l (codes_answer changer_kind rctd (options_at options) code action) (codes_answer_free changer_kind rctd (options_at options) code action)
changer_command_free c h (host.ReportSupportedTaskManagementFunctions repd l) bytes other = refl
changer_command_free c h (host.PositionToElement transport destination invert) bytes other = positioned_free (transport == 0 && can_hold c.elements destination)
changer_command_free c h (host.InitializeElementStatusWithRange fast range start count) bytes other = refl
changer_command_free c h (host.ExchangeMedium transport source first second inv1 inv2) bytes other = absurd cc

-- of every command but a move
host_changer_free : (c : ChangerView) (h : HostChanger) (r : Request) (bytes : List ℕ) → is_move r ≡ false → IsFree (host_changer_step c h r bytes)
host_changer_free c h (request.MoveMedium t s d invert) bytes other = absurd cc
host_changer_free c h request.TestUnitReady bytes other = refl
host_changer_free c h request.InitializeElementStatus bytes other = refl
host_changer_free c h (request.ModeSense dbd pc page subpage l) bytes other =
    let sense = mode_sense Six dbd pc page subpage in
    answers_free l (answered (changer_fault sense) (changer_mode_data_of sense (addresses_of c.elements))) (answered_free (changer_fault sense) (changer_mode_data_of sense (addresses_of c.elements)) (mode_sense_free changer_kind sense))
host_changer_free c h (request.ReadElementStatus voltag type_code start count curdata dvcid l) bytes other = refl
host_changer_free c h (request.Host command) bytes other = changer_command_free c h command bytes other
host_changer_free c h r bytes other = refl

changer_free : (e : Elements) (r : Request) → is_move r ≡ false → IsFree (changer_step e r)
changer_free e (request.MoveMedium t s d invert) other = absurd cc
changer_free e r other = refl

changer_stepped_free : (o : Option HostChanger) (c : ChangerView) (r : Request) (bytes : List ℕ) → is_move r ≡ false → IsFree (changer_stepped o c r bytes)
changer_stepped_free None c r bytes other = changer_free c.elements r other
changer_stepped_free (Some h) c r bytes other = host_changer_free c h r bytes other

stepped_fails : (o : Option HostChanger) (c : ChangerView) (t s d : ℕ) (bytes : List ℕ)
    → is_failure (changer_stepped o c (request.MoveMedium t s d false) bytes).1.sense ≡ is_for_drives c (request.MoveMedium t s d false)
stepped_fails None c t s d bytes = carried_fails c.elements t s d (move_refusal c.elements t s d) refl
stepped_fails (Some h) c t s d bytes =
    ap (λ (x : Outcome). is_failure x.sense) (host_carried_alike c h s d (move_refusal c.elements t s d))
    ∙ carried_fails c.elements t s d (move_refusal c.elements t s d) refl

-- an exchange that nothing refuses is carried out where no drive is among its elements
done_fails : (c : ChangerView) (h : HostChanger) (t s f d : ℕ) (drive : Bool) (r : Result Elements MapFault) → exchange_refusal c.elements t s f d ≡ None
    → has_drive c.elements s f d ≡ drive → exchanges c.elements s f d ≡ r → is_failure (host_exchanged_alone c h s f d r).1.sense ≡ drive
done_fails c h t s f d drive (Ok after) none has is = sym (exchanged_alone c.elements after s f d is) ∙ has
done_fails c h t s f d true (Err fault) none has is = refl
done_fails c h t s f d false (Err fault) none has is =
    let does = exchanges_done c.elements t s f d none has in
    let differs : Err fault ≡ Ok does.0 = sym is ∙ does.1 in
    absurd cc

exchanged_fails : (c : ChangerView) (h : HostChanger) (t s f d : ℕ) (o : Option MapFault) → exchange_refusal c.elements t s f d ≡ o
    → is_failure (host_exchanged c h s f d o).1.sense ≡ (is_none o && has_drive c.elements s f d)
exchanged_fails c h t s f d (Some BadAddress) is = refl
exchanged_fails c h t s f d (Some SourceEmpty) is = refl
exchanged_fails c h t s f d (Some DestinationFull) is = refl
exchanged_fails c h t s f d None is = done_fails c h t s f d (has_drive c.elements s f d) (exchanges c.elements s f d) is refl refl

-- no other command is for the drives
and_false : (o : Option HostChanger) → false ≡ (is_some o && false)
and_false None = refl
and_false (Some h) = refl

for_no_exchange : (o : Option HostChanger) (e : Elements) (command : HostRequest) → is_exchange command ≡ false → false ≡ (is_some o && is_exchange_for_drives e command)
for_no_exchange o e (host.ExchangeMedium t s f d inv1 inv2) other = absurd cc
for_no_exchange o e command other = and_false o

for_no_drives : (c : ChangerView) (r : Request) → is_move r ≡ false → false ≡ is_for_drives c r
for_no_drives c (request.MoveMedium t s d invert) other = absurd cc
for_no_drives c (request.Host command) other = for_no_exchange c.hosts c.elements command other
for_no_drives c r other = refl

other_fails : (c : ChangerView) (r : Request) (bytes : List ℕ) → is_move r ≡ false → is_failure (performed (Changer c) r bytes).1.sense ≡ is_for_drives c r
other_fails c r bytes other = performs_free (Changer c) r bytes (changer_stepped_free c.hosts c r bytes other) ∙ for_no_drives c r other

-- of an EXCHANGE MEDIUM by the profile, of which the default one has none
exchange_fails : (o : Option HostChanger) (c : ChangerView) (t s f d : ℕ) (inv1 inv2 : Bool) (bytes : List ℕ) → c.hosts ≡ o
    → is_failure (performed (Changer c) (request.Host (host.ExchangeMedium t s f d inv1 inv2)) bytes).1.sense
    ≡ (is_some o && is_exchange_for_drives c.elements (host.ExchangeMedium t s f d inv1 inv2))
exchange_fails None c t s f d inv1 inv2 bytes is =
    performs_free (Changer c) (request.Host (host.ExchangeMedium t s f d inv1 inv2)) bytes
    (subst (λ (o : Option HostChanger). IsFree (changer_stepped o c (request.Host (host.ExchangeMedium t s f d inv1 inv2)) bytes)) (sym is) refl)
exchange_fails (Some h) c t s f d true inv2 bytes is =
    ap (λ (x : DeviceView × Outcome). is_failure x.1.sense) (inverted_exchange c h t s f d true inv2 bytes is refl)
exchange_fails (Some h) c t s f d false true bytes is =
    ap (λ (x : DeviceView × Outcome). is_failure x.1.sense) (inverted_exchange c h t s f d false true bytes is refl)
exchange_fails (Some h) c t s f d false false bytes is =
    ap (λ (x : DeviceView × Outcome). is_failure x.1.sense) (exchange_performed c h t s f d bytes is)
    ∙ exchanged_fails c h t s f d (exchange_refusal c.elements t s f d) refl

command_fails : (c : ChangerView) (command : HostRequest) (bytes : List ℕ) → is_failure (performed (Changer c) (request.Host command) bytes).1.sense
    ≡ is_for_drives c (request.Host command)
command_fails c (host.ExchangeMedium t s f d inv1 inv2) bytes = exchange_fails c.hosts c t s f d inv1 inv2 bytes refl
command_fails c command bytes = other_fails c (request.Host command) bytes refl

pub changers_fail_for_drives : ChangersFailForDrives
changers_fail_for_drives c (request.MoveMedium t s d true) bytes =
    ap (λ (x : DeviceView × Outcome). is_failure x.1.sense) (inverted_performed (Changer c) t s d bytes)
changers_fail_for_drives c (request.MoveMedium t s d false) bytes =
    ap (λ (x : DeviceView × Outcome). is_failure x.1.sense) (move_performed (Changer c) t s d bytes) ∙ stepped_fails c.hosts c t s d bytes
changers_fail_for_drives c (request.Host command) bytes = command_fails c command bytes
changers_fail_for_drives c r bytes = other_fails c r bytes refl
