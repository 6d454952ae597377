-- A device stays of its kind, profile and identity, and keeps its data transfer elements.
use Rattle.std.proofs.Common.{◌≡◌, ℕ, Bool, true, false, List, length, Option, Some, None, Result, Ok, Err, refl, sym, ap, ◌∙◌}
use Rattle.std.specs.Prelude.{cond}
use Rattle.std.specs.Option.{option_map}
use Rattle.scsi_cdb.specs.declared.host_request.HostRequest.{HostRequest}
use Rattle.scsi_cdb.specs.declared.host_request.HostRequest.TheVariants as host
use Rattle.scsi_cdb.specs.declared.kind.Kind.{Kind}
use Rattle.scsi_cdb.specs.declared.kind.Kind.TheVariants as kind
use Rattle.scsi_cdb.specs.declared.profile.Profile.{Profile}
use Rattle.scsi_cdb.specs.declared.profile.Profile.TheVariants.{Spec, Hosts}
use Rattle.scsi_cdb.specs.declared.request.Request.{Request}
use Rattle.scsi_cdb.specs.declared.request.Request.TheVariants as request
use Rattle.scsi_cdb.specs.Kinds.{commands}
use Rattle.scsi_sense.specs.declared.condition.Condition.{Condition}
use Rattle.scsi_sense.specs.declared.condition.Condition.TheVariants.{InitializingCommandRequired}
use Rattle.tape_medium.specs.Limits.{most_block}
use Rattle.tape_medium.specs.declared.volume.Volume.{Volume}
use Rattle.tape_medium.specs.declared.elements.MapFault.{MapFault}
use Rattle.tape_medium.specs.Elements.{Elements, Element, Transport, DataTransfer, ImportExport, Storage, Nowhere, element_at, held_in, holding, moved, move_refusal, moves}
use Rattle.element_map.specs.Exchange.{exchange_refusal, exchanges}
use Rattle.inquiry_data.specs.declared.unit_identity.UnitIdentity.{UnitIdentity}
use Rattle.mode_pages.specs.Select as mode
use Rattle.mode_pages.specs.declared.request.HeaderForm.TheVariants.{Six, Ten}
use Rattle.mode_pages.specs.declared.values.ModeValues.{ModeValues}
use Rattle.log_pages.specs.LogSelect as log
use Rattle.log_pages.specs.declared.change.LogChange.{LogChange}
use Rattle.device_server.specs.declared.host_changer.HostChanger.{HostChanger}
use Rattle.device_server.specs.declared.host_drive.HostDrive.{HostDrive}
use Rattle.device_server.specs.declared.outcome.Outcome.{Outcome}
use Rattle.device_server.specs.Outcomes.{refused}
use Rattle.device_server.specs.Changer.{moved_alone, carried, changer_step}
use Rattle.device_server.specs.Drive.{DriveView, on_tape, in_volume, in_bay, loads, drive_step}
use Rattle.device_server.specs.Hosts.{log_select}
use Rattle.device_server.specs.HostChanger.{ChangerView, sources_moved, sources_exchanged, host_moved_alone, host_carried, host_exchanged_alone, host_exchanged, changer_command_step, host_changer_step}
use Rattle.device_server.specs.HostDrive.{mode_of, host_selects, host_loads, not_ready, host_on_tape, host_in_volume, host_in_bay, host_log_selects, host_command_step, host_drive_step}
use Rattle.device_server.specs.View.{DeviceView, Drive, Changer, kind_of, identity_of, profile_by, profile_of, commands_of, drives_of, journeyed, exchange_journeyed, field_fault, drive_stepped, changer_stepped, stepped, performed, reset_of}
use Rattle.device_server.specs.Ends.{IsSameDevice}
use Rattle.device_server.proofs.ExchangeLemmas.{exchanged_drives}
use Rattle.device_server.proofs.PlaceLemmas.{holding_drives}

-- THE PROFILE is known from the identity

pub same_device : (before after : DeviceView) → kind_of after ≡ kind_of before → identity_of after ≡ identity_of before → drives_of after ≡ drives_of before
    → IsSameDevice before after
unfolding profile_of
same_device before after same_kind same_identity same_drives =
    record { kind = same_kind; profile = ap profile_by same_identity; identity = same_identity; drives = same_drives }

pub same_itself : (d : DeviceView) → IsSameDevice d d
same_itself d = record { kind = refl; profile = refl; identity = refl; drives = refl }

pub same_commands : (before after : DeviceView) → IsSameDevice before after → commands_of after ≡ commands_of before
same_commands before after same = ap (λ (p : Profile). commands p (kind_of after)) same.profile ∙ ap (λ (k : Kind). commands (profile_of before) k) same.kind

-- A DRIVE. What it keeps besides keeps its identity

abbrev drive_identity : Option HostDrive → Option UnitIdentity
drive_identity hosts = option_map (λ (h : HostDrive). h.identity) hosts

either_hosts : (d : DriveView) (b : Bool) (x y : DriveView × Outcome) → x.0.hosts ≡ d.hosts → y.0.hosts ≡ d.hosts → (cond b x y).0.hosts ≡ d.hosts
either_hosts d true x y p q = p
either_hosts d false x y p q = q

bay_hosts : (d : DriveView) (o : Option Volume) (r : Request) (bytes : List ℕ) → (in_bay d o r bytes).0.hosts ≡ d.hosts
bay_hosts d None r bytes = refl
bay_hosts d (Some v) r bytes =
    either_hosts d d.loaded (in_volume d v (on_tape Spec d.block_length v.protected v.tape r bytes)) (d, refused InitializingCommandRequired) refl refl

loads_hosts : (d : DriveView) (o : Option Volume) (load : Bool) → (loads d o load).0.hosts ≡ d.hosts
loads_hosts d None load = refl
loads_hosts d (Some v) load = refl

drive_hosts : (d : DriveView) (r : Request) (bytes : List ℕ) → (drive_step d r bytes).0.hosts ≡ d.hosts
drive_hosts d request.ReadBlockLimits bytes = refl
drive_hosts d (request.ModeSelect sp l) bytes = refl
drive_hosts d (request.ModeSense dbd pc page subpage l) bytes = refl
drive_hosts d (request.LoadUnload hold eot load) bytes = loads_hosts d d.bay load
drive_hosts d r bytes = bay_hosts d d.bay r bytes

-- of the hosts' profile
abbrev Stays : DriveView → (DriveView × Outcome) → Type 0
Stays d x = drive_identity x.0.hosts ≡ drive_identity d.hosts

either_stays : (d : DriveView) (b : Bool) (x y : DriveView × Outcome) → Stays d x → Stays d y → Stays d (cond b x y)
either_stays d true x y p q = p
either_stays d false x y p q = q

host_bay_stays : (d : DriveView) (h : HostDrive) (o : Option Volume) (r : Request) (bytes : List ℕ) → d.hosts ≡ Some h → Stays d (host_in_bay d h o r bytes)
host_bay_stays d h None r bytes is = refl
host_bay_stays d h (Some v) r bytes is =
    either_stays d d.loaded (host_in_volume d h v r (host_on_tape d.block_length v.protected v.tape r bytes)) (d, refused (not_ready h.held))
    (sym (ap drive_identity is)) refl

host_loads_stays : (d : DriveView) (h : HostDrive) (o : Option Volume) (hold load : Bool) → d.hosts ≡ Some h → Stays d (host_loads d h o hold load)
host_loads_stays d h None hold load is = refl
host_loads_stays d h (Some v) hold load is = sym (ap drive_identity is)

selects_stays : (d : DriveView) (h : HostDrive) (values : Result ModeValues Condition) → d.hosts ≡ Some h → Stays d (host_selects d h values)
selects_stays d h (Ok values) is = sym (ap drive_identity is)
selects_stays d h (Err condition) is = refl

log_selects_stays : (d : DriveView) (h : HostDrive) (change : Result LogChange Condition) → d.hosts ≡ Some h → Stays d (host_log_selects d h change)
log_selects_stays d h (Ok change) is = sym (ap drive_identity is)
log_selects_stays d h (Err condition) is = refl

host_command_stays : (d : DriveView) (h : HostDrive) (command : HostRequest) (bytes : List ℕ) → d.hosts ≡ Some h → Stays d (host_command_step d h command bytes)
host_command_stays d h (host.SendDiagnostic code test l) bytes is = refl
host_command_stays d h (host.LogSelect pcr sp pc page subpage l) bytes is =
    log_selects_stays d h (log.selected kind.Drive (log_select pcr sp page subpage l) (length bytes)) is
host_command_stays d h (host.LogSense ppc sp pc page subpage pointer l) bytes is = refl
host_command_stays d h (host.ModeSelect10 sp l) bytes is = selects_stays d h (mode.selected (mode_of d h) (most_block Hosts) Ten sp l bytes) is
host_command_stays d h (host.ModeSense10 dbd pc page subpage l) bytes is = refl
host_command_stays d h (host.ReportSupportedOperationCodes rctd options code action l) bytes is = refl
host_command_stays d h (host.ReportSupportedTaskManagementFunctions repd l) bytes is = refl
host_command_stays d h (host.PositionToElement transport destination invert) bytes is = refl
host_command_stays d h (host.ExchangeMedium transport source first second inv1 inv2) bytes is = refl
host_command_stays d h (host.InitializeElementStatusWithRange fast range start count) bytes is = refl

host_drive_stays : (d : DriveView) (h : HostDrive) (r : Request) (bytes : List ℕ) → d.hosts ≡ Some h → Stays d (host_drive_step d h r bytes)
host_drive_stays d h request.ReadBlockLimits bytes is = refl
host_drive_stays d h (request.ModeSelect sp l) bytes is = selects_stays d h (mode.selected (mode_of d h) (most_block Hosts) Six sp l bytes) is
host_drive_stays d h (request.ModeSense dbd pc page subpage l) bytes is = refl
host_drive_stays d h (request.LoadUnload hold eot load) bytes is = host_loads_stays d h d.bay hold load is
host_drive_stays d h (request.Host command) bytes is = host_command_stays d h command bytes is
host_drive_stays d h r bytes is = host_bay_stays d h d.bay r bytes is

drive_stays : (d : DriveView) (o : Option HostDrive) (r : Request) (bytes : List ℕ) → d.hosts ≡ o → Stays d (drive_stepped o d r bytes)
drive_stays d None r bytes is = ap drive_identity (drive_hosts d r bytes)
drive_stays d (Some h) r bytes is = host_drive_stays d h r bytes is

reset_hosts : (o : Option HostDrive) → drive_identity (option_map (λ (h : HostDrive). record h { compression = true }) o) ≡ drive_identity o
reset_hosts None = refl
reset_hosts (Some h) = refl

-- A CHANGER keeps the number of its elements, and its marks

moved_drives : (e : Elements) (from : Element) (held : Option (Option Volume)) (to : Element) (there : Option (Option Volume))
    → (moved_alone e (moved e from held to there)).0.data_transfer ≡ e.data_transfer
moved_drives e from None to there = refl
moved_drives e from (Some None) to None = refl
moved_drives e from (Some (Some volume)) to None = refl
moved_drives e from (Some None) to (Some there) = refl
moved_drives e from (Some (Some volume)) to (Some (Some other)) = refl
moved_drives e from (Some (Some volume)) to (Some None) = holding_drives (holding e from None) to (Some volume) ∙ holding_drives e from None

carried_drives : (e : Elements) (source destination : ℕ) (o : Option MapFault) → (carried e source destination o).0.data_transfer ≡ e.data_transfer
carried_drives e source destination (Some fault) = refl
carried_drives e source destination None =
    let from = element_at e source in
    let to = element_at e destination in
    moved_drives e from (held_in e from) to (held_in e to)

pub changer_drives : (e : Elements) (r : Request) → (changer_step e r).0.data_transfer ≡ e.data_transfer
changer_drives e (request.MoveMedium transport source destination invert) =
    carried_drives e source destination (move_refusal e transport source destination)
changer_drives e r = refl

-- a move changes the elements as in the default profile
host_moved_elements : (c : ChangerView) (h : HostChanger) (source destination : ℕ) (after : Result Elements MapFault)
    → (host_moved_alone c h source destination after).0.elements ≡ (moved_alone c.elements after).0
host_moved_elements c h source destination (Ok after) = refl
host_moved_elements c h source destination (Err fault) = refl

pub host_carried_elements : (c : ChangerView) (h : HostChanger) (source destination : ℕ) (o : Option MapFault)
    → (host_carried c h source destination o).0.elements ≡ (carried c.elements source destination o).0
host_carried_elements c h source destination (Some fault) = refl
host_carried_elements c h source destination None = host_moved_elements c h source destination (moves c.elements source destination)

host_exchanged_drives : (c : ChangerView) (h : HostChanger) (source first second : ℕ) (after : Result Elements MapFault) → exchanges c.elements source first second ≡ after
    → (host_exchanged_alone c h source first second after).0.elements.data_transfer ≡ c.elements.data_transfer
host_exchanged_drives c h source first second (Ok after) is = exchanged_drives c.elements after source first second is
host_exchanged_drives c h source first second (Err fault) is = refl

host_exchange_drives : (c : ChangerView) (h : HostChanger) (source first second : ℕ) (o : Option MapFault)
    → (host_exchanged c h source first second o).0.elements.data_transfer ≡ c.elements.data_transfer
host_exchange_drives c h source first second (Some fault) = refl
host_exchange_drives c h source first second None = host_exchanged_drives c h source first second (exchanges c.elements source first second) refl

command_drives : (c : ChangerView) (h : HostChanger) (command : HostRequest) (bytes : List ℕ)
    → (changer_command_step c h command bytes).0.elements.data_transfer ≡ c.elements.data_transfer
command_drives c h (host.ExchangeMedium transport source first second inv1 inv2) bytes =
    host_exchange_drives c h source first second (exchange_refusal c.elements transport source first second)
command_drives c h command bytes = refl

host_changer_drives : (c : ChangerView) (h : HostChanger) (r : Request) (bytes : List ℕ) → (host_changer_step c h r bytes).0.elements.data_transfer ≡ c.elements.data_transfer
host_changer_drives c h (request.MoveMedium transport source destination invert) bytes =
    ap (λ (e : Elements). e.data_transfer) (host_carried_elements c h source destination (move_refusal c.elements transport source destination))
    ∙ carried_drives c.elements source destination (move_refusal c.elements transport source destination)
host_changer_drives c h (request.Host command) bytes = command_drives c h command bytes
host_changer_drives c h r bytes = refl

changer_stepped_drives : (c : ChangerView) (o : Option HostChanger) (r : Request) (bytes : List ℕ) → (changer_stepped o c r bytes).0.elements.data_transfer ≡ c.elements.data_transfer
changer_stepped_drives c None r bytes = changer_drives c.elements r
changer_stepped_drives c (Some h) r bytes = host_changer_drives c h r bytes

pub stepped_drives : (c : ChangerView) (r : Request) (bytes : List ℕ) → (changer_stepped c.hosts c r bytes).0.elements.data_transfer ≡ c.elements.data_transfer
stepped_drives c r bytes = changer_stepped_drives c c.hosts r bytes

-- and its identity
abbrev changer_identity : Option HostChanger → Option UnitIdentity
changer_identity hosts = option_map (λ (h : HostChanger). h.identity) hosts

host_moved_stays : (c : ChangerView) (h : HostChanger) (source destination : ℕ) (after : Result Elements MapFault) → c.hosts ≡ Some h
    → changer_identity (host_moved_alone c h source destination after).0.hosts ≡ changer_identity c.hosts
host_moved_stays c h source destination (Ok after) is = sym (ap changer_identity is)
host_moved_stays c h source destination (Err fault) is = refl

host_carried_stays : (c : ChangerView) (h : HostChanger) (source destination : ℕ) (o : Option MapFault) → c.hosts ≡ Some h
    → changer_identity (host_carried c h source destination o).0.hosts ≡ changer_identity c.hosts
host_carried_stays c h source destination (Some fault) is = refl
host_carried_stays c h source destination None is = host_moved_stays c h source destination (moves c.elements source destination) is

host_exchanged_stays : (c : ChangerView) (h : HostChanger) (source first second : ℕ) (after : Result Elements MapFault) → c.hosts ≡ Some h
    → changer_identity (host_exchanged_alone c h source first second after).0.hosts ≡ changer_identity c.hosts
host_exchanged_stays c h source first second (Ok after) is = sym (ap changer_identity is)
host_exchanged_stays c h source first second (Err fault) is = refl

host_exchange_stays : (c : ChangerView) (h : HostChanger) (source first second : ℕ) (o : Option MapFault) → c.hosts ≡ Some h
    → changer_identity (host_exchanged c h source first second o).0.hosts ≡ changer_identity c.hosts
host_exchange_stays c h source first second (Some fault) is = refl
host_exchange_stays c h source first second None is = host_exchanged_stays c h source first second (exchanges c.elements source first second) is

command_stays : (c : ChangerView) (h : HostChanger) (command : HostRequest) (bytes : List ℕ) → c.hosts ≡ Some h
    → changer_identity (changer_command_step c h command bytes).0.hosts ≡ changer_identity c.hosts
command_stays c h (host.ExchangeMedium transport source first second inv1 inv2) bytes is =
    host_exchange_stays c h source first second (exchange_refusal c.elements transport source first second) is
command_stays c h command bytes is = refl

host_changer_stays : (c : ChangerView) (h : HostChanger) (r : Request) (bytes : List ℕ) → c.hosts ≡ Some h
    → changer_identity (host_changer_step c h r bytes).0.hosts ≡ changer_identity c.hosts
host_changer_stays c h (request.MoveMedium transport source destination invert) bytes is =
    host_carried_stays c h source destination (move_refusal c.elements transport source destination) is
host_changer_stays c h (request.Host command) bytes is = command_stays c h command bytes is
host_changer_stays c h r bytes is = refl

changer_stays : (c : ChangerView) (o : Option HostChanger) (r : Request) (bytes : List ℕ) → c.hosts ≡ o
    → changer_identity (changer_stepped o c r bytes).0.hosts ≡ changer_identity c.hosts
changer_stays c None r bytes is = refl
changer_stays c (Some h) r bytes is = host_changer_stays c h r bytes is

journey_stays : (o : Option HostChanger) (f : HostChanger → HostChanger) → ((h : HostChanger) → (f h).identity ≡ h.identity) → changer_identity (option_map f o) ≡ changer_identity o
journey_stays None f same = refl
journey_stays (Some h) f same = ap (λ (i : UnitIdentity). Some i) (same h)

-- COMMANDS, RESETS, JOURNEYS

stepped_same : (d : DeviceView) (r : Request) (bytes : List ℕ) → IsSameDevice d (stepped d r bytes).0
stepped_same (Drive d) r bytes = same_device (Drive d) _ refl (drive_stays d d.hosts r bytes refl) refl
stepped_same (Changer c) r bytes = same_device (Changer c) _ refl (changer_stays c c.hosts r bytes refl) (ap length (stepped_drives c r bytes))

pub performed_same : (d : DeviceView) (r : Request) (bytes : List ℕ) → IsSameDevice d (performed d r bytes).0
performed_same d r bytes =
    elim (field_fault d r bytes) as (λ (o : Option Condition). let step : DeviceView × Outcome = elim o [ Some condition ↦ (d, refused condition) | None ↦ stepped d r bytes ] in IsSameDevice d step.0) [
      | Some condition ↦ same_itself d
      | None ↦ stepped_same d r bytes
    ]

pub reset_same : (d : DeviceView) → IsSameDevice d (reset_of d)
reset_same (Drive d) = same_device (Drive d) _ refl (reset_hosts d.hosts) refl
reset_same (Changer c) = same_itself (Changer c)

pub reset_profile : (d : DeviceView) → profile_of (reset_of d) ≡ profile_of d
reset_profile d = (reset_same d).profile

pub journey_same : (d : DeviceView) (source destination : ℕ) → IsSameDevice d (journeyed d source destination)
journey_same (Drive d) source destination = same_itself (Drive d)
journey_same (Changer c) source destination = same_device (Changer c) _ refl (journey_stays c.hosts (λ (h : HostChanger). sources_moved h source destination) (λ h. refl)) refl

pub exchange_same : (d : DeviceView) (source first second : ℕ) → IsSameDevice d (exchange_journeyed d source first second)
exchange_same (Drive d) source first second = same_itself (Drive d)
exchange_same (Changer c) source first second =
    same_device (Changer c) _ refl (journey_stays c.hosts (λ (h : HostChanger). sources_exchanged h source first second) (λ h. refl)) refl
