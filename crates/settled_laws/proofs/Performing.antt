-- Each command is performed alike: first as if nothing was settled, and so at any two devices that are the same but settled.
use Rattle.std.proofs.Common.{◌≡◌, ℕ, Bool, true, false, List, [], ◌∷◌, length, Option, Some, None, Result, Ok, Err, refl, sym, ap, subst}
use Rattle.std.proofs.Common.{◌∙◌, min, take, not, ◌==◌, ◌&&◌, if◌then◌else◌}
use Rattle.scsi_cdb.specs.declared.host_request.HostRequest.{HostRequest}
use Rattle.scsi_cdb.specs.declared.host_request.HostRequest.TheVariants as host
use Rattle.scsi_cdb.specs.declared.kind.Kind.TheVariants.{Drive as drive_kind}
use Rattle.scsi_cdb.specs.declared.profile.Profile.TheVariants.{Spec, Hosts}
use Rattle.scsi_cdb.specs.declared.request.Request.{Request}
use Rattle.scsi_cdb.specs.declared.request.Request.TheVariants as request
use Rattle.scsi_sense.specs.declared.condition.Condition.{Condition}
use Rattle.scsi_sense.specs.declared.condition.Condition.TheVariants.{InternalTargetFailure, InvalidElementAddress}
use Rattle.tape_medium.specs.Limits.{most_block}
use Rattle.tape_medium.specs.TapeView.{TapeView}
use Rattle.tape_medium.specs.declared.volume.Volume.{Volume}
use Rattle.tape_medium.specs.declared.elements.MapFault.{MapFault}
use Rattle.tape_medium.specs.Elements.{Elements, move_refusal, moves}
use Rattle.tape_medium.specs.Tape.{settled}
use Rattle.tape_medium.specs.Settling.{settled_to, unsettled_place, unsettled_elements}
use Rattle.element_map.specs.Exchange.{exchange_refusal, exchanges}
use Rattle.mode_pages.specs.ChangerData.{changer_answer}
use Rattle.mode_pages.specs.DriveData.{drive_answer}
use Rattle.mode_pages.specs.Select as mode
use Rattle.mode_pages.specs.Values.{mode_values}
use Rattle.mode_pages.specs.declared.elements.ElementAddresses.{ElementAddresses}
use Rattle.mode_pages.specs.declared.request.HeaderForm.TheVariants.{Six, Ten}
use Rattle.mode_pages.specs.declared.values.DriveState.{DriveState}
use Rattle.mode_pages.specs.declared.values.ModeValues.{ModeValues}
use Rattle.log_pages.specs.Counters.{after}
use Rattle.log_pages.specs.LogSelect as log
use Rattle.log_pages.specs.LogSense.{drive_log_data}
use Rattle.log_pages.specs.declared.change.LogChange.{LogChange}
use Rattle.log_pages.specs.declared.drive_log.DriveLog.{DriveLog}
use Rattle.device_server.specs.declared.host_changer.HostChanger.{HostChanger}
use Rattle.device_server.specs.declared.host_drive.HostDrive.{HostDrive}
use Rattle.device_server.specs.declared.outcome.Outcome.{Outcome}
use Rattle.device_server.specs.Outcomes.{refused, done, set, answers}
use Rattle.device_server.specs.Changer.{changer_step, carried, moved_alone, move_condition}
use Rattle.device_server.specs.Drive.{DriveView, is_protected, drive_step, on_tape, in_volume, in_bay, loads}
use Rattle.device_server.specs.Mode.{block_length_after, mode_data}
use Rattle.device_server.specs.Settled.{SameButSettled, unsettled}
use Rattle.device_server.specs.Hosts.{mode_sense, log_sense, log_select}
use Rattle.device_server.specs.HostChanger.{ChangerView, sources_moved, sources_exchanged, host_moved_alone, host_carried, host_exchanged_alone, host_exchanged, status_asked, changer_command_step, host_changer_step}
use Rattle.device_server.specs.HostDrive.{mode_state, host_selects, host_loads, passed_bytes, counted, host_on_tape, host_in_bay, drive_log, host_log_selects, host_command_step, host_drive_step}
use Rattle.device_server.specs.View.{DeviceView, Drive, Changer, field_fault, drive_stepped, changer_stepped, stepped, performed}
use Rattle.settled_laws.specs.Alike.{StepAlike, PerformAlike, AttendedAnswersAlike, ends, attends, performs, outcomes, device_after}
use Rattle.settled_laws.proofs.Tapes.{Alike, on_tape_alike, host_on_tape_alike}
use Rattle.settled_laws.proofs.Maps.{place_twice, elements_twice, same_refusal, same_mode_data, same_status, same_addresses, same_host_status, same_can_hold, same_exchange_refusal, moves_same, exchanges_same, of_result}
pub use Rattle.settled_laws.proofs.Showing.{refuse_alike}

-- A DRIVE

unfoldable pub drive_of : (bay : Option Volume) → (loaded : Bool) → (block_length : ℕ) → (hosts : Option HostDrive) → DriveView
drive_of bay loaded block_length hosts = record { bay = bay; loaded = loaded; block_length = block_length; hosts = hosts }

drive_twice : (d : DriveView) → unsettled (unsettled (Drive d)) ≡ unsettled (Drive d)
unfolding drive_of
drive_twice d = ap (λ (bay : Option Volume). Drive (drive_of bay d.loaded d.block_length d.hosts)) (place_twice d.bay)

pub unsettled_twice : (d : DeviceView) → unsettled (unsettled d) ≡ unsettled d
unsettled_twice (Drive d) = drive_twice d
unsettled_twice (Changer c) = ap (λ (e : Elements). Changer (record c { elements = e })) (elements_twice c.elements)

abbrev DriveAlike : (a b : DriveView × Outcome) → Type 0
DriveAlike a b = StepAlike (Drive a.0, a.1) (Drive b.0, b.1)

-- of a volume whose tape is the same but for what is settled
volume_alike : (d e : DriveView) (v w : Volume) (a b : TapeView × Outcome) → d.loaded ≡ e.loaded → d.block_length ≡ e.block_length
    → d.hosts ≡ e.hosts → v.tag ≡ w.tag → v.protected ≡ w.protected → Alike a b → DriveAlike (in_volume d v a) (in_volume e w b)
unfolding drive_of
volume_alike d e v w a b loaded block_length hosts tag protected alike =
    let tape : settled a.0 (min 0 (length a.0.objects)) ≡ settled b.0 (min 0 (length b.0.objects)) =
    ap (λ (t : TapeView). settled t (min 0 (length t.objects))) alike.0 in
    (cc, alike.1)

bay_alike : (loaded : Bool) (block_length : ℕ) (hosts : Option HostDrive) (bay : Option Volume) (r : Request) (bytes : List ℕ)
    → DriveAlike (in_bay (drive_of bay loaded block_length hosts) bay r bytes)
    (in_bay (drive_of (unsettled_place bay) loaded block_length hosts) (unsettled_place bay) r bytes)
unfolding drive_of
bay_alike loaded block_length hosts None r bytes = (refl, refl)
bay_alike false block_length hosts (Some v) r bytes = (sym (drive_twice (drive_of (Some v) false block_length hosts)), refl)
bay_alike true block_length hosts (Some v) r bytes =
    let none : ℕ = min 0 (length v.tape.objects) in
    volume_alike (drive_of (Some v) true block_length hosts) (drive_of (Some (settled_to 0 v)) true block_length hosts) v (settled_to 0 v)
    (on_tape Spec block_length v.protected v.tape r bytes) (on_tape Spec block_length v.protected (settled v.tape none) r bytes) refl refl refl refl refl
    (on_tape_alike Spec block_length v.protected v.tape none r bytes)

loaded_alike : (loaded load : Bool) (block_length : ℕ) (hosts : Option HostDrive) (bay : Option Volume)
    → DriveAlike (loads (drive_of bay loaded block_length hosts) bay load)
    (loads (drive_of (unsettled_place bay) loaded block_length hosts) (unsettled_place bay) load)
unfolding drive_of
loaded_alike loaded load block_length hosts None = (refl, refl)
loaded_alike loaded load block_length hosts (Some v) = (refl, refl)

-- a drive that stays with what is in its bay
stays_alike : (bay : Option Volume) (loaded : Bool) (block_length : ℕ) (hosts : Option HostDrive) (o : Outcome)
    → DriveAlike (drive_of bay loaded block_length hosts, o) (drive_of (unsettled_place bay) loaded block_length hosts, o)
unfolding drive_of
stays_alike bay loaded block_length hosts o = (sym (drive_twice (drive_of bay loaded block_length hosts)), refl)

protected_same : (bay : Option Volume) → is_protected (unsettled_place bay) ≡ is_protected bay
protected_same None = refl
protected_same (Some v) = refl

drive_alike : (bay : Option Volume) (loaded : Bool) (block_length : ℕ) (hosts : Option HostDrive) (r : Request) (bytes : List ℕ)
    → DriveAlike (drive_step (drive_of bay loaded block_length hosts) r bytes)
    (drive_step (drive_of (unsettled_place bay) loaded block_length hosts) r bytes)
unfolding drive_of
drive_alike bay loaded block_length hosts request.ReadBlockLimits bytes = stays_alike bay loaded block_length hosts _
drive_alike bay loaded block_length hosts (request.ModeSelect sp list_length) bytes =
    stays_alike bay loaded (block_length_after block_length list_length bytes) hosts
    (set (not (block_length_after block_length list_length bytes == block_length)))
drive_alike bay loaded block_length hosts (request.ModeSense dbd page_control page subpage allocation_length) bytes =
    let stays = stays_alike bay loaded block_length hosts (done []) in
    (stays.0, ap (λ (p : Bool). done (take allocation_length (mode_data p dbd block_length))) (sym (protected_same bay)))
drive_alike bay loaded block_length hosts (request.LoadUnload hold eot load) bytes = loaded_alike loaded load block_length hosts bay
drive_alike bay loaded block_length hosts r bytes = bay_alike loaded block_length hosts bay r bytes

-- A DRIVE of the hosts' profile: its counters go by the objects that a tape passed, which settling leaves

host_bay_alike : (loaded : Bool) (block_length : ℕ) (hosts : Option HostDrive) (h : HostDrive) (bay : Option Volume) (r : Request) (bytes : List ℕ)
    → DriveAlike (host_in_bay (drive_of bay loaded block_length hosts) h bay r bytes)
    (host_in_bay (drive_of (unsettled_place bay) loaded block_length hosts) h (unsettled_place bay) r bytes)
unfolding drive_of
host_bay_alike loaded block_length hosts h None r bytes = (refl, refl)
host_bay_alike false block_length hosts h (Some v) r bytes = (sym (drive_twice (drive_of (Some v) false block_length hosts)), refl)
host_bay_alike true block_length hosts h (Some v) r bytes =
    let none : ℕ = min 0 (length v.tape.objects) in
    let alike = host_on_tape_alike block_length v.protected v.tape none r bytes in
    let left : TapeView → ℕ → DeviceView = λ t sent. Drive (record {
      bay = Some (record v { tape = settled t (min 0 (length t.objects)) });
      loaded = true;
      block_length = block_length;
      hosts = Some (record h { counters = counted h.counters r (passed_bytes v.tape t) sent });
    }) in (
      ap (λ (t : TapeView). left t (length (host_on_tape block_length v.protected v.tape r bytes).1.payload)) alike.0
          ∙ ap (λ (o : Outcome). left (host_on_tape block_length v.protected (settled v.tape none) r bytes).0 (length o.payload)) alike.1,
      alike.1,
    )

host_loads_alike : (loaded hold load : Bool) (block_length : ℕ) (hosts : Option HostDrive) (h : HostDrive) (bay : Option Volume)
    → DriveAlike (host_loads (drive_of bay loaded block_length hosts) h bay hold load)
    (host_loads (drive_of (unsettled_place bay) loaded block_length hosts) h (unsettled_place bay) hold load)
unfolding drive_of
host_loads_alike loaded hold load block_length hosts h None = (refl, refl)
host_loads_alike loaded hold load block_length hosts h (Some v) = (refl, refl)

selects_alike : (bay : Option Volume) (loaded : Bool) (block_length : ℕ) (hosts : Option HostDrive) (h : HostDrive) (values : Result ModeValues Condition)
    → DriveAlike (host_selects (drive_of bay loaded block_length hosts) h values) (host_selects (drive_of (unsettled_place bay) loaded block_length hosts) h values)
unfolding drive_of
selects_alike bay loaded block_length hosts h (Ok values) =
    stays_alike bay loaded values.block_length (Some (record h { compression = values.compression })) _
selects_alike bay loaded block_length hosts h (Err condition) = stays_alike bay loaded block_length hosts (refused condition)

log_selects_alike : (bay : Option Volume) (loaded : Bool) (block_length : ℕ) (hosts : Option HostDrive) (h : HostDrive) (change : Result LogChange Condition)
    → DriveAlike (host_log_selects (drive_of bay loaded block_length hosts) h change) (host_log_selects (drive_of (unsettled_place bay) loaded block_length hosts) h change)
unfolding drive_of
log_selects_alike bay loaded block_length hosts h (Ok change) =
    stays_alike bay loaded block_length (Some (record h { counters = after h.counters change })) _
log_selects_alike bay loaded block_length hosts h (Err condition) = stays_alike bay loaded block_length hosts (refused condition)

-- what MODE SENSE and LOG SENSE show
state_same : (bay : Option Volume) (loaded : Bool) (block_length : ℕ) (hosts : Option HostDrive) (h : HostDrive)
    → mode_state (drive_of bay loaded block_length hosts) h ≡ mode_state (drive_of (unsettled_place bay) loaded block_length hosts) h
unfolding drive_of
state_same None loaded block_length hosts h = refl
state_same (Some v) loaded block_length hosts h = refl

log_same : (bay : Option Volume) (loaded : Bool) (block_length : ℕ) (hosts : Option HostDrive) (h : HostDrive)
    → drive_log (drive_of bay loaded block_length hosts) h ≡ drive_log (drive_of (unsettled_place bay) loaded block_length hosts) h
unfolding drive_of
log_same None loaded block_length hosts h = refl
log_same (Some v) loaded block_length hosts h = refl

-- a drive that stays, and ends alike
ends_alike : (bay : Option Volume) (loaded : Bool) (block_length : ℕ) (hosts : Option HostDrive) (a b : Outcome) → a ≡ b
    → DriveAlike (drive_of bay loaded block_length hosts, a) (drive_of (unsettled_place bay) loaded block_length hosts, b)
ends_alike bay loaded block_length hosts a b same = ((stays_alike bay loaded block_length hosts a).0, same)

command_alike : (bay : Option Volume) (loaded : Bool) (block_length : ℕ) (hosts : Option HostDrive) (h : HostDrive) (command : HostRequest) (bytes : List ℕ)
    → DriveAlike (host_command_step (drive_of bay loaded block_length hosts) h command bytes)
    (host_command_step (drive_of (unsettled_place bay) loaded block_length hosts) h command bytes)
unfolding drive_of
command_alike bay loaded block_length hosts h (host.LogSelect pcr sp pc page subpage l) bytes =
    log_selects_alike bay loaded block_length hosts h (log.selected drive_kind (log_select pcr sp page subpage l) (length bytes))
command_alike bay loaded block_length hosts h (host.LogSense ppc sp pc page subpage pointer l) bytes =
    ends_alike bay loaded block_length hosts _ _
    (ap (λ (log : DriveLog). answers l (drive_log_data (log_sense ppc sp page subpage pointer) log)) (log_same bay loaded block_length hosts h))
command_alike bay loaded block_length hosts h (host.ModeSelect10 sp l) bytes =
    selects_alike bay loaded block_length hosts h (mode.selected (mode_values block_length h.compression) (most_block Hosts) Ten sp l bytes)
command_alike bay loaded block_length hosts h (host.ModeSense10 dbd pc page subpage l) bytes =
    ends_alike bay loaded block_length hosts _ _
    (ap (λ (state : DriveState). answers l (drive_answer (mode_sense Ten dbd pc page subpage) state)) (state_same bay loaded block_length hosts h))
command_alike bay loaded block_length hosts h (host.SendDiagnostic code test l) bytes = stays_alike bay loaded block_length hosts _
command_alike bay loaded block_length hosts h (host.ReportSupportedOperationCodes rctd options code action l) bytes = stays_alike bay loaded block_length hosts _
command_alike bay loaded block_length hosts h (host.ReportSupportedTaskManagementFunctions repd l) bytes = stays_alike bay loaded block_length hosts _
command_alike bay loaded block_length hosts h (host.PositionToElement transport destination invert) bytes = stays_alike bay loaded block_length hosts _
command_alike bay loaded block_length hosts h (host.ExchangeMedium transport source first second inv1 inv2) bytes =
    stays_alike bay loaded block_length hosts _
command_alike bay loaded block_length hosts h (host.InitializeElementStatusWithRange fast range start count) bytes = stays_alike bay loaded block_length hosts _

host_alike : (bay : Option Volume) (loaded : Bool) (block_length : ℕ) (hosts : Option HostDrive) (h : HostDrive) (r : Request) (bytes : List ℕ)
    → DriveAlike (host_drive_step (drive_of bay loaded block_length hosts) h r bytes)
    (host_drive_step (drive_of (unsettled_place bay) loaded block_length hosts) h r bytes)
unfolding drive_of
host_alike bay loaded block_length hosts h request.ReadBlockLimits bytes = stays_alike bay loaded block_length hosts _
host_alike bay loaded block_length hosts h (request.ModeSelect sp l) bytes =
    selects_alike bay loaded block_length hosts h (mode.selected (mode_values block_length h.compression) (most_block Hosts) Six sp l bytes)
host_alike bay loaded block_length hosts h (request.ModeSense dbd pc page subpage l) bytes =
    ends_alike bay loaded block_length hosts _ _
    (ap (λ (state : DriveState). answers l (drive_answer (mode_sense Six dbd pc page subpage) state)) (state_same bay loaded block_length hosts h))
host_alike bay loaded block_length hosts h (request.LoadUnload hold eot load) bytes = host_loads_alike loaded hold load block_length hosts h bay
host_alike bay loaded block_length hosts h (request.Host command) bytes = command_alike bay loaded block_length hosts h command bytes
host_alike bay loaded block_length hosts h r bytes = host_bay_alike loaded block_length hosts h bay r bytes

by_profile_alike : (o : Option HostDrive) (bay : Option Volume) (loaded : Bool) (block_length : ℕ) (hosts : Option HostDrive) (r : Request) (bytes : List ℕ)
    → DriveAlike (drive_stepped o (drive_of bay loaded block_length hosts) r bytes)
    (drive_stepped o (drive_of (unsettled_place bay) loaded block_length hosts) r bytes)
by_profile_alike None bay loaded block_length hosts r bytes = drive_alike bay loaded block_length hosts r bytes
by_profile_alike (Some h) bay loaded block_length hosts r bytes = host_alike bay loaded block_length hosts h r bytes

-- A CHANGER, whatever it keeps besides

changer_of : Elements → Option HostChanger → ChangerView
changer_of e hosts = record { elements = e; hosts = hosts }

abbrev ChangerAlike : (a b : ChangerView × Outcome) → Type 0
ChangerAlike a b = StepAlike (Changer a.0, a.1) (Changer b.0, b.1)

abbrev ElementsAlike : (hosts : Option HostChanger) → (a b : Elements × Outcome) → Type 0
ElementsAlike hosts a b = ChangerAlike (record { elements = a.0; hosts = hosts }, a.1) (record { elements = b.0; hosts = hosts }, b.1)

elements_settle : (hosts : Option HostChanger) (e : Elements)
    → Changer (record { elements = unsettled_elements e; hosts = hosts }) ≡ Changer (record { elements = unsettled_elements (unsettled_elements e); hosts = hosts })
unfolding changer_of
elements_settle hosts e = sym (ap (λ (x : Elements). Changer (changer_of x hosts)) (elements_twice e))

elements_stay : (hosts : Option HostChanger) (e : Elements) (o : Outcome) → ElementsAlike hosts (e, o) (unsettled_elements e, o)
elements_stay hosts e o = (elements_settle hosts e, refl)

moved_alike : (hosts : Option HostChanger) (e : Elements) (r : Result Elements MapFault)
    → ElementsAlike hosts (moved_alone e r) (moved_alone (unsettled_elements e) (of_result unsettled_elements r))
moved_alike hosts e (Ok after) = (elements_settle hosts after, refl)
moved_alike hosts e (Err fault) = elements_stay hosts e (refused InternalTargetFailure)

carried_alike : (hosts : Option HostChanger) (e : Elements) (source destination : ℕ) (o : Option MapFault)
    → ElementsAlike hosts (carried e source destination o) (carried (unsettled_elements e) source destination o)
carried_alike hosts e source destination (Some fault) = elements_stay hosts e (refused (move_condition fault))
carried_alike hosts e source destination None =
    subst (λ (r : Result Elements MapFault). ElementsAlike hosts (carried e source destination None) (moved_alone (unsettled_elements e) r))
    (sym (moves_same e source destination))
    (moved_alike hosts e (moves e source destination))

changer_alike : (hosts : Option HostChanger) (e : Elements) (r : Request) → ElementsAlike hosts (changer_step e r) (changer_step (unsettled_elements e) r)
changer_alike hosts e (request.ModeSense dbd page_control page subpage allocation_length) =
    (elements_settle hosts e, ap (λ (bytes : List ℕ). done (take allocation_length bytes)) (sym (same_mode_data e)))
changer_alike hosts e (request.MoveMedium transport source destination invert) =
    subst (λ (o : Option MapFault).
    ElementsAlike hosts (carried e source destination (move_refusal e transport source destination))
    (carried (unsettled_elements e) source destination o))
    (sym (same_refusal e transport source destination)) (carried_alike hosts e source destination (move_refusal e transport source destination))
changer_alike hosts e (request.ReadElementStatus voltag type_code start count curdata dvcid allocation_length) = (
  elements_settle hosts e,
  ap (λ (bytes : List ℕ). done (take allocation_length bytes))
      (sym (same_status e type_code start count voltag)),
)
changer_alike hosts e r = elements_stay hosts e _

-- of the hosts' profile

abbrev at_hosts : Elements → Option HostChanger → ChangerView
at_hosts e hosts = record { elements = e; hosts = hosts }

host_moved_alike : (hosts : Option HostChanger) (h : HostChanger) (e : Elements) (source destination : ℕ) (r : Result Elements MapFault)
    → ChangerAlike (host_moved_alone (at_hosts e hosts) h source destination r)
    (host_moved_alone (at_hosts (unsettled_elements e) hosts) h source destination (of_result unsettled_elements r))
host_moved_alike hosts h e source destination (Ok after) = (elements_settle (Some (sources_moved h source destination)) after, refl)
host_moved_alike hosts h e source destination (Err fault) = elements_stay hosts e (refused InternalTargetFailure)

host_carried_alike : (hosts : Option HostChanger) (h : HostChanger) (e : Elements) (source destination : ℕ) (o : Option MapFault)
    → ChangerAlike (host_carried (at_hosts e hosts) h source destination o) (host_carried (at_hosts (unsettled_elements e) hosts) h source destination o)
host_carried_alike hosts h e source destination (Some fault) = elements_stay hosts e (refused (move_condition fault))
host_carried_alike hosts h e source destination None =
    subst (λ (r : Result Elements MapFault). ChangerAlike (host_carried (at_hosts e hosts) h source destination None)
    (host_moved_alone (at_hosts (unsettled_elements e) hosts) h source destination r))
    (sym (moves_same e source destination))
    (host_moved_alike hosts h e source destination (moves e source destination))

host_exchanged_alike : (hosts : Option HostChanger) (h : HostChanger) (e : Elements) (source first second : ℕ) (r : Result Elements MapFault)
    → ChangerAlike (host_exchanged_alone (at_hosts e hosts) h source first second r)
    (host_exchanged_alone (at_hosts (unsettled_elements e) hosts) h source first second (of_result unsettled_elements r))
host_exchanged_alike hosts h e source first second (Ok after) = (elements_settle (Some (sources_exchanged h source first second)) after, refl)
host_exchanged_alike hosts h e source first second (Err fault) = elements_stay hosts e (refused InternalTargetFailure)

host_exchange_alike : (hosts : Option HostChanger) (h : HostChanger) (e : Elements) (source first second : ℕ) (o : Option MapFault)
    → ChangerAlike (host_exchanged (at_hosts e hosts) h source first second o) (host_exchanged (at_hosts (unsettled_elements e) hosts) h source first second o)
host_exchange_alike hosts h e source first second (Some fault) = elements_stay hosts e (refused (move_condition fault))
host_exchange_alike hosts h e source first second None =
    subst (λ (r : Result Elements MapFault). ChangerAlike (host_exchanged (at_hosts e hosts) h source first second None)
    (host_exchanged_alone (at_hosts (unsettled_elements e) hosts) h source first second r))
    (sym (exchanges_same e source first second))
    (host_exchanged_alike hosts h e source first second (exchanges e source first second))

changer_command_alike : (hosts : Option HostChanger) (h : HostChanger) (e : Elements) (command : HostRequest) (bytes : List ℕ)
    → ChangerAlike (changer_command_step (at_hosts e hosts) h command bytes) (changer_command_step (at_hosts (unsettled_elements e) hosts) h command bytes)
changer_command_alike hosts h e (host.ModeSense10 dbd pc page subpage l) bytes =
    (elements_settle hosts e, ap (λ (at : ElementAddresses). answers l (changer_answer (mode_sense Ten dbd pc page subpage) at)) (sym (same_addresses e)))
changer_command_alike hosts h e (host.PositionToElement transport destination invert) bytes = (
  elements_settle hosts e,
  ap (λ (held : Bool). if transport == 0 && held then done [] else refused InvalidElementAddress) (sym (same_can_hold e destination)),
)
changer_command_alike hosts h e (host.ExchangeMedium transport source first second inv1 inv2) bytes =
    subst (λ (o : Option MapFault).
    ChangerAlike (host_exchanged (at_hosts e hosts) h source first second (exchange_refusal e transport source first second))
    (host_exchanged (at_hosts (unsettled_elements e) hosts) h source first second o))
    (sym (same_exchange_refusal e transport source first second))
    (host_exchange_alike hosts h e source first second (exchange_refusal e transport source first second))
changer_command_alike hosts h e command bytes = elements_stay hosts e _

host_changer_alike : (hosts : Option HostChanger) (h : HostChanger) (e : Elements) (r : Request) (bytes : List ℕ)
    → ChangerAlike (host_changer_step (at_hosts e hosts) h r bytes) (host_changer_step (at_hosts (unsettled_elements e) hosts) h r bytes)
host_changer_alike hosts h e (request.ModeSense dbd pc page subpage l) bytes =
    (elements_settle hosts e, ap (λ (at : ElementAddresses). answers l (changer_answer (mode_sense Six dbd pc page subpage) at)) (sym (same_addresses e)))
host_changer_alike hosts h e (request.MoveMedium transport source destination invert) bytes =
    subst (λ (o : Option MapFault).
    ChangerAlike (host_carried (at_hosts e hosts) h source destination (move_refusal e transport source destination))
    (host_carried (at_hosts (unsettled_elements e) hosts) h source destination o))
    (sym (same_refusal e transport source destination)) (host_carried_alike hosts h e source destination (move_refusal e transport source destination))
host_changer_alike hosts h e (request.ReadElementStatus voltag type_code start count curdata dvcid l) bytes = (
  elements_settle hosts e,
  ap (λ (bytes : List ℕ). done (take l bytes))
      (sym (same_host_status e h.sources h.identity.library_number (status_asked voltag type_code start count dvcid))),
)
host_changer_alike hosts h e (request.Host command) bytes = changer_command_alike hosts h e command bytes
host_changer_alike hosts h e r bytes = elements_stay hosts e _

changer_by_profile : (o hosts : Option HostChanger) (e : Elements) (r : Request) (bytes : List ℕ)
    → ChangerAlike (changer_stepped o (at_hosts e hosts) r bytes) (changer_stepped o (at_hosts (unsettled_elements e) hosts) r bytes)
changer_by_profile None hosts e r bytes = changer_alike hosts e r
changer_by_profile (Some h) hosts e r bytes = host_changer_alike hosts h e r bytes

-- ANY DEVICE

stepped_alike : (d : DeviceView) (r : Request) (bytes : List ℕ) → StepAlike (stepped d r bytes) (stepped (unsettled d) r bytes)
unfolding drive_of
stepped_alike (Drive d) r bytes = by_profile_alike d.hosts d.bay d.loaded d.block_length d.hosts r bytes
stepped_alike (Changer c) r bytes = changer_by_profile c.hosts c.hosts c.elements r bytes

of_fault : DeviceView → Request → List ℕ → Option Condition → DeviceView × Outcome
of_fault d r bytes (Some condition) = (d, refused condition)
of_fault d r bytes None = stepped d r bytes

of_fault_alike : (d : DeviceView) (r : Request) (bytes : List ℕ) (o : Option Condition)
    → StepAlike (of_fault d r bytes o) (of_fault (unsettled d) r bytes o)
unfolding of_fault
of_fault_alike d r bytes (Some condition) = (sym (unsettled_twice d), refl)
of_fault_alike d r bytes None = stepped_alike d r bytes

performed_unsettled : (d : DeviceView) (r : Request) (bytes : List ℕ) → StepAlike (performed d r bytes) (performed (unsettled d) r bytes)
unfolding of_fault
performed_unsettled d r bytes =
    subst (λ (o : Option Condition). StepAlike (performed d r bytes) (of_fault (unsettled d) r bytes o))
    (refuse_alike d (unsettled d) r bytes (sym (unsettled_twice d)))
    (of_fault_alike d r bytes (field_fault d r bytes))

pub perform_alike : PerformAlike
perform_alike one two r bytes same =
    let a = performed_unsettled one r bytes in
    let b = performed_unsettled two r bytes in
    let step : performed (unsettled one) r bytes ≡ performed (unsettled two) r bytes = ap (λ (d : DeviceView). performed d r bytes) same in
    (a.0 ∙ ap (λ (s : DeviceView × Outcome). unsettled s.0) step ∙ sym b.0, a.1 ∙ ap (λ (s : DeviceView × Outcome). s.1) step ∙ sym b.1)

-- COMMANDS ONE AFTER ANOTHER

outcomes_alike : (one two : DeviceView) (commands : List (Request × List ℕ)) → SameButSettled one two
    → (outcomes one commands ≡ outcomes two commands) × SameButSettled (device_after one commands) (device_after two commands)
outcomes_alike one two [] same = (refl, same)
outcomes_alike one two (command ∷ commands) same =
    let step = perform_alike one two command.0 command.1 same in
    let rest = outcomes_alike (performed one command.0 command.1).0 (performed two command.0 command.1).0 commands step.0 in (
      ap (λ (o : Outcome). o ∷ outcomes (performed one command.0 command.1).0 commands) step.1
          ∙ ap (λ (os : List Outcome). (performed two command.0 command.1).1 ∷ os) rest.0,
      rest.1,
    )

pub attended_alike : AttendedAnswersAlike
attended_alike _ _ _ _ (ends device) = (refl, refl)
attended_alike _ _ _ _ (attends before after last commands told same more) =
    let rest = attended_alike after last commands told more in
    let alike = outcomes_alike before after commands same in
    (rest.0 ∙ sym alike.0, rest.1 ∙ sym alike.1)
attended_alike _ _ _ _ (performs device last r bytes commands told more) =
    let rest = attended_alike (performed device r bytes).0 last commands told more in
    (ap (λ (os : List Outcome). (performed device r bytes).1 ∷ os) rest.0, rest.1)
