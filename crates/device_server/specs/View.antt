-- What contracts see of a device, its step by each command, and the volumes that go in and out.
use Rattle.std.specs.Prelude.{ℕ, ◌==◌, true, false, List, length, Option, None, Some, Result, Ok, Err, if◌then◌else◌}
use Rattle.std.specs.Option.{option_map}
use Rattle.scsi_cdb.specs.declared.kind.Kind.{Kind}
use Rattle.scsi_cdb.specs.declared.kind.Kind.TheVariants as kind
use Rattle.scsi_cdb.specs.declared.profile.CommandSet.{CommandSet}
use Rattle.scsi_cdb.specs.declared.profile.Profile.{Profile}
use Rattle.scsi_cdb.specs.declared.profile.Profile.TheVariants as profile
use Rattle.scsi_cdb.specs.declared.request.Request.{Request}
use Rattle.scsi_cdb.specs.Kinds.{commands}
use Rattle.scsi_sense.specs.declared.condition.Condition.{Condition}
use Rattle.tape_medium.specs.declared.volume.VolumeTag.{VolumeTag}
use Rattle.tape_medium.specs.declared.volume.Volume.{Volume}
use Rattle.tape_medium.specs.declared.elements.MapFault.{MapFault}
use Rattle.tape_medium.specs.declared.elements.MapFault.TheVariants as map_fault
use Rattle.tape_medium.specs.Elements.{tag_of, reads, takes, puts, notes}
use Rattle.inquiry_data.specs.declared.unit_identity.UnitIdentity.{UnitIdentity}
use Rattle.device_server.specs.declared.host_changer.HostChanger.{HostChanger}
use Rattle.device_server.specs.declared.host_drive.HostDrive.{HostDrive}
use Rattle.device_server.specs.declared.outcome.Outcome.{Outcome}
use Rattle.device_server.specs.declared.fault.TakeFault.{TakeFault}
use Rattle.device_server.specs.declared.fault.TakeFault.TheVariants as take_fault
use Rattle.device_server.specs.declared.fault.PutFault.{PutFault}
use Rattle.device_server.specs.declared.fault.PutFault.TheVariants as put_fault
use Rattle.device_server.specs.declared.fault.BadPlace.{BadPlace}
use Rattle.device_server.specs.Outcomes.{refused}
use Rattle.device_server.specs.FieldFaults.{field_fault_of}
use Rattle.device_server.specs.Changer.{changer_step}
use Rattle.device_server.specs.Drive.{DriveView, drive_step, drive_reset, rewound}
use Rattle.device_server.specs.HostDrive.{host_drive_step}
use Rattle.device_server.specs.HostChanger.{ChangerView, journey_noted, exchange_noted, host_changer_step}

-- a drive, or a changer
pub data DeviceView : Type 0 where
  Drive : DriveView → DeviceView
  Changer : ChangerView → DeviceView

abbrev pub kind_of : DeviceView → Kind
kind_of (Drive d) = kind.Drive
kind_of (Changer c) = kind.Changer

-- which unit a device is, which the hosts' profile asks for
abbrev pub identity_of : DeviceView → Option UnitIdentity
identity_of (Drive d) = option_map (λ (h : HostDrive). h.identity) d.hosts
identity_of (Changer c) = option_map (λ (h : HostChanger). h.identity) c.hosts

-- the profile that a device is of, which no proof above rests on
abbrev pub profile_by : Option UnitIdentity → Profile
profile_by None = profile.Spec
profile_by (Some identity) = profile.Hosts

unfoldable pub profile_of : DeviceView → Profile
profile_of device = profile_by (identity_of device)

-- the commands that a device has
abbrev pub commands_of : DeviceView → CommandSet
commands_of device = commands (profile_of device) (kind_of device)

-- how many data transfer elements a changer has
abbrev pub drives_of : DeviceView → ℕ
drives_of (Drive d) = 0
drives_of (Changer c) = length c.elements.data_transfer

-- PLACES. A drive has place 0, its bay. A changer's are its elements, by address.

-- the tag of the volume at a place
abbrev pub held_in : DeviceView → (place : ℕ) → Option VolumeTag
held_in (Drive d) place = if place == 0 then tag_of d.bay else None
held_in (Changer c) place = elim (reads c.elements place) [ Ok tag ↦ tag | Err fault ↦ None ]

-- a volume that is taken out of a drive is rewound
abbrev pub taken_from_bay : DriveView → Option Volume → Result (Volume × DeviceView) TakeFault
taken_from_bay d None = Err take_fault.Empty
taken_from_bay d (Some v) = Ok (rewound v, Drive (record d { bay = None; loaded = false }))

-- why nothing can be taken there
abbrev pub take_fault_of : MapFault → TakeFault
take_fault_of map_fault.SourceEmpty = take_fault.Empty
take_fault_of fault = take_fault.BadPlace

abbrev pub taken : DeviceView → (place : ℕ) → Result (Volume × DeviceView) TakeFault
taken (Drive d) place = if place == 0 then taken_from_bay d d.bay else Err take_fault.BadPlace
taken (Changer c) place = elim (takes c.elements place) [ Ok it ↦ Ok (it.1, Changer (record c { elements = it.0 })) | Err fault ↦ Err (take_fault_of fault) ]

-- one that is put in is loaded, at the beginning of its tape
abbrev pub put_in_bay : DriveView → Option Volume → Volume → Result DeviceView PutFault
put_in_bay d (Some other) v = Err put_fault.Full
put_in_bay d None v = Ok (Drive (record d { bay = Some (rewound v); loaded = true }))

-- why nothing can be put there
abbrev pub put_fault_of : MapFault → PutFault
put_fault_of map_fault.DestinationFull = put_fault.Full
put_fault_of fault = put_fault.BadPlace

abbrev pub put : DeviceView → (place : ℕ) → Volume → Result DeviceView PutFault
put (Drive d) place v = if place == 0 then put_in_bay d d.bay v else Err put_fault.BadPlace
put (Changer c) place v = elim (puts c.elements place v) [ Ok after ↦ Ok (Changer (record c { elements = after })) | Err fault ↦ Err (put_fault_of fault) ]

-- the tag in a drive's element of a changer
abbrev pub marked : DeviceView → (place : ℕ) → Option VolumeTag → Result DeviceView BadPlace
marked (Drive d) place tag = Err record {}
marked (Changer c) place tag = elim (notes c.elements place tag) [ Ok after ↦ Ok (Changer (record c { elements = after })) | Err fault ↦ Err record {} ]

-- a volume was carried between two elements, by a drive or not: a changer of the hosts' profile notes from where it came
abbrev pub journeyed : DeviceView → (source destination : ℕ) → DeviceView
journeyed (Drive d) source destination = Drive d
journeyed (Changer c) source destination = Changer (journey_noted c source destination)

-- and so it does where two were exchanged
abbrev pub exchange_journeyed : DeviceView → (source first second : ℕ) → DeviceView
exchange_journeyed (Drive d) source first second = Drive d
exchange_journeyed (Changer c) source first second = Changer (exchange_noted c source first second)

-- THE STEP by a command, with the data sent with it: first its fields are looked at

-- what is refused of a command by its fields alone
abbrev pub field_fault : DeviceView → Request → List ℕ → Option Condition
field_fault device request bytes = field_fault_of (commands_of device) request bytes

-- by the profile
abbrev pub drive_stepped : Option HostDrive → DriveView → Request → List ℕ → DriveView × Outcome
drive_stepped None d request bytes = drive_step d request bytes
drive_stepped (Some h) d request bytes = host_drive_step d h request bytes

abbrev pub changer_stepped : Option HostChanger → ChangerView → Request → List ℕ → ChangerView × Outcome
changer_stepped None c request bytes = let step = changer_step c.elements request in (record c { elements = step.0 }, step.1)
changer_stepped (Some h) c request bytes = host_changer_step c h request bytes

abbrev pub stepped : DeviceView → Request → List ℕ → DeviceView × Outcome
stepped (Drive d) request bytes = let step = drive_stepped d.hosts d request bytes in (Drive step.0, step.1)
stepped (Changer c) request bytes = let step = changer_stepped c.hosts c request bytes in (Changer step.0, step.1)

abbrev pub performed : DeviceView → Request → List ℕ → DeviceView × Outcome
performed device request bytes = elim (field_fault device request bytes) [
  | Some condition ↦ (device, refused condition)
  | None ↦ stepped device request bytes
]

-- the device after a reset of the unit: a changer stays as it is
abbrev pub reset_of : DeviceView → DeviceView
reset_of (Drive d) = Drive (drive_reset d)
reset_of (Changer c) = Changer c
