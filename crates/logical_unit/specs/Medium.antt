-- A volume that is taken out of a drive, or put into it, beside its commands: a record of its own, without a nexus.
use Rattle.std.specs.Prelude.{◌≡◌, if◌then◌else◌, None, Result, Ok, Err}
use Rattle.scsi_cdb.specs.declared.kind.Kind.TheVariants.{Drive, Changer}
use Rattle.tape_medium.specs.declared.volume.Volume.{Volume}
use Rattle.audit_log.specs.declared.act.Act.TheVariants.{MediumIn, MediumOut}
use Rattle.device_server.specs.View.{DeviceView, kind_of, taken, put}
use Rattle.device_server.specs.declared.fault.TakeFault.{TakeFault}
use Rattle.device_server.specs.declared.fault.PutFault.{PutFault}
use Rattle.logical_unit.specs.declared.medium_fault.MediumFault.{MediumFault}
use Rattle.logical_unit.specs.declared.medium_fault.MediumFault.TheVariants.{NotADrive, Prevented, Empty, Full, Busy}
use Rattle.logical_unit.specs.UnitView.{UnitView}
use Rattle.judgement.specs.UnitState.{is_prevented, with_medium}
use Rattle.logical_unit.specs.Step.{with_event}

-- the volume and the unit without it, or why it isn't taken out, in the order of the tests
abbrev pub taken_as : UnitView → Result (Volume × DeviceView) TakeFault → Result (Volume × UnitView) MediumFault
taken_as u (Ok it) = Ok (it.0, with_event u None MediumOut (record { device = it.1; state = u.state }))
taken_as u (Err fault) = Err Empty

abbrev pub taken_out : UnitView → Result (Volume × UnitView) MediumFault
taken_out u = elim (kind_of u.device) [
  | Changer ↦ Err NotADrive
  | Drive ↦ if is_prevented u.state then Err Prevented else taken_as u (taken u.device 0)
]

-- the unit with the volume, or why it isn't put in; who prevents removal prevents nothing here, and every slot is told
abbrev pub put_as : UnitView → Result DeviceView PutFault → Result UnitView MediumFault
put_as u (Ok device) = Ok (with_event u None MediumIn (record { device = device; state = with_medium u.state }))
put_as u (Err fault) = Err Full

abbrev pub put_in : UnitView → Volume → Result UnitView MediumFault
put_in u volume = elim (kind_of u.device) [
  | Changer ↦ Err NotADrive
  | Drive ↦ put_as u (put u.device 0 volume)
]

-- a refusal is that fault, or where there is none BUSY
abbrev pub IsRefusal : {A : Type 0} → Result A MediumFault → MediumFault → Type 0
IsRefusal (Err due) fault = fault ≡ due
IsRefusal (Ok it) fault = fault ≡ Busy
