-- What devices of the default profile do is what they did before there was another one, and what the fields of commands of the hosts' profile
-- decide.
use Rattle.std.specs.Prelude.{◌≡◌, ◌↔◌, ℕ, Bool, false, List, Some, None, Ok}
use Rattle.scsi_cdb.specs.declared.host_request.HostRequest.{HostRequest}
use Rattle.scsi_cdb.specs.declared.kind.Kind.{Kind}
use Rattle.scsi_cdb.specs.declared.kind.Kind.TheVariants as kind
use Rattle.scsi_cdb.specs.declared.profile.Profile.TheVariants.{Spec, Hosts}
use Rattle.scsi_cdb.specs.declared.request.Request.{Request}
use Rattle.scsi_cdb.specs.declared.request.Request.TheVariants.{ModeSelect, ModeSense, Host}
use Rattle.scsi_cdb.specs.Encoding.{IsOf}
use Rattle.scsi_cdb.specs.Kinds.{commands}
use Rattle.scsi_sense.specs.CarriedOut.{is_early_warning}
use Rattle.scsi_sense.specs.declared.status.Status.TheVariants.{Good}
use Rattle.tape_medium.specs.Elements.{Elements}
use Rattle.mode_pages.specs.declared.values.ModeValues.{ModeValues}
use Rattle.device_server.specs.declared.host_drive.HostDrive.{HostDrive}
use Rattle.device_server.specs.Changer.{changer_step}
use Rattle.device_server.specs.Drive.{DriveView, drive_step}
use Rattle.device_server.specs.Fields.{spec_field_fault}
use Rattle.device_server.specs.FieldFaults.{field_fault_of}
use Rattle.device_server.specs.HostChanger.{spec_changer}
use Rattle.device_server.specs.HostDrive.{mode_of, host_selects}
use Rattle.device_server.specs.View.{DeviceView, Drive, Changer, identity_of, profile_of, field_fault, stepped, performed}

-- THE DEFAULT PROFILE: what fields refuse, a drive's step, a changer's step, and that there is no identity there alone
abbrev pub FieldsOfSpec : Type 0
FieldsOfSpec = (kind : Kind) (request : Request) (bytes : List ℕ) → field_fault_of (commands Spec kind) request bytes ≡ spec_field_fault kind request bytes

abbrev pub DrivesOfSpec : Type 0
DrivesOfSpec = (d : DriveView) (request : Request) (bytes : List ℕ) → d.hosts ≡ None
    → stepped (Drive d) request bytes ≡ (let step = drive_step d request bytes in (Drive step.0, step.1))

abbrev pub ChangersOfSpec : Type 0
ChangersOfSpec = (e : Elements) (request : Request) (bytes : List ℕ)
    → stepped (Changer (spec_changer e)) request bytes ≡ (let step = changer_step e request in (Changer (spec_changer step.0), step.1))

-- no command of a drive there ends at early warning
abbrev pub DrivesOfSpecNeverWarn : Type 0
DrivesOfSpecNeverWarn = (d : DriveView) (request : Request) (bytes : List ℕ) → is_early_warning (drive_step d request bytes).1.sense ≡ false

abbrev pub IdentitiesAreOfHosts : Type 0
IdentitiesAreOfHosts = (device : DeviceView) → (profile_of device ≡ Spec) ↔ (identity_of device ≡ None)

-- THE HOSTS' PROFILE: what fields don't refuse of the commands that drives have in this profile alone, of MODE SELECT and of MODE SENSE, is
-- carried out
abbrev pub IsGoodUnlessRefused : DriveView → Request → List ℕ → Type 0
IsGoodUnlessRefused d request bytes = field_fault (Drive d) request bytes ≡ None → (performed (Drive d) request bytes).1.status ≡ Good

abbrev pub FieldsDecideHostCommands : Type 0
FieldsDecideHostCommands = (d : DriveView) (h : HostDrive) (command : HostRequest) (bytes : List ℕ) → d.hosts ≡ Some h
    → IsOf (commands Hosts kind.Drive) (Host command) → IsGoodUnlessRefused d (Host command) bytes

abbrev pub FieldsDecideModeSelect : Type 0
FieldsDecideModeSelect = (d : DriveView) (h : HostDrive) (save_pages : Bool) (list_length : ℕ) (bytes : List ℕ) → d.hosts ≡ Some h
    → IsGoodUnlessRefused d (ModeSelect save_pages list_length) bytes

abbrev pub FieldsDecideModeSense : Type 0
FieldsDecideModeSense = (d : DriveView) (h : HostDrive) (dbd : Bool) (control page subpage allocation_length : ℕ) (bytes : List ℕ) → d.hosts ≡ Some h
    → IsGoodUnlessRefused d (ModeSense dbd control page subpage allocation_length) bytes

-- and a MODE SELECT tells the others just where it changed a value
abbrev pub ModeSelectTellsChanges : Type 0
ModeSelectTellsChanges = (d : DriveView) (h : HostDrive) (values : ModeValues) → ((host_selects d h (Ok values)).1.told ≡ None) ↔ (values ≡ mode_of d h)
