-- What is reported of each fault, pending attention and refusal (SPC-4, "Sense key and additional sense code definitions").
use Rattle.scsi_cdb.specs.declared.fault.CdbFault.{CdbFault}
use Rattle.scsi_cdb.specs.declared.fault.CdbFault.TheVariants.{Opcode, ShortCdb, ServiceAction, Naca}
use Rattle.scsi_sense.specs.declared.condition.Condition.{Condition}
use Rattle.scsi_sense.specs.declared.condition.Condition.TheVariants as condition
use Rattle.unit_attention.specs.declared.kind.Kind.{Kind}
use Rattle.unit_attention.specs.declared.kind.Kind.TheVariants.{PowerOn, BusDeviceReset, NexusLoss, MediumChanged, ModeParametersChanged, LogParametersChanged, ReservationsPreempted, ReservationsReleased, RegistrationsPreempted}
use Rattle.permit_tables.specs.declared.pr_fault.PrFault.{PrFault}
use Rattle.permit_tables.specs.declared.pr_fault.PrFault.TheVariants.{InvalidField, InvalidParam, InvalidRelease, NoRegistrationRoom}

-- a CDB that decodes to no command
abbrev pub condition_of_fault : CdbFault → Condition
condition_of_fault Opcode = condition.InvalidCommandOperationCode
condition_of_fault ShortCdb = condition.InvalidFieldInCdb
condition_of_fault ServiceAction = condition.InvalidFieldInCdb
condition_of_fault Naca = condition.InvalidFieldInCdb

-- a pending unit attention
abbrev pub condition_of_attention : Kind → Condition
condition_of_attention PowerOn = condition.PowerOnOrResetOccurred
condition_of_attention BusDeviceReset = condition.BusDeviceResetFunctionOccurred
condition_of_attention NexusLoss = condition.NexusLossOccurred
condition_of_attention MediumChanged = condition.NotReadyToReadyChange
condition_of_attention ModeParametersChanged = condition.ModeParametersChanged
condition_of_attention LogParametersChanged = condition.LogParametersChanged
condition_of_attention ReservationsPreempted = condition.ReservationsPreempted
condition_of_attention ReservationsReleased = condition.ReservationsReleased
condition_of_attention RegistrationsPreempted = condition.RegistrationsPreempted

-- a PERSISTENT RESERVE OUT command that is allowed, and refused
abbrev pub condition_of_refusal : PrFault → Condition
condition_of_refusal InvalidField = condition.InvalidFieldInCdb
condition_of_refusal InvalidParam = condition.InvalidFieldInParameterList
condition_of_refusal InvalidRelease = condition.InvalidReleaseOfPersistentReservation
condition_of_refusal NoRegistrationRoom = condition.InsufficientRegistrationResources
