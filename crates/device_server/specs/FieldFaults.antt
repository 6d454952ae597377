-- What is refused of a device's commands by fields and sent data alone, by its profile and kind.
use Rattle.std.specs.Prelude.{ℕ, List, Option}
use Rattle.scsi_cdb.specs.declared.kind.Kind.{Kind}
use Rattle.scsi_cdb.specs.declared.profile.CommandSet.{CommandSet}
use Rattle.scsi_cdb.specs.declared.profile.Profile.{Profile}
use Rattle.scsi_cdb.specs.declared.profile.Profile.TheVariants.{Spec, Hosts}
use Rattle.scsi_cdb.specs.declared.request.Request.{Request}
use Rattle.scsi_cdb.specs.Kinds.{commands}
use Rattle.scsi_sense.specs.declared.condition.Condition.{Condition}
use Rattle.device_server.specs.Fields.{spec_field_fault}
use Rattle.device_server.specs.HostFields.{host_field_fault}

abbrev pub field_fault_by : Profile → Kind → Request → List ℕ → Option Condition
field_fault_by Spec kind request bytes = spec_field_fault kind request bytes
field_fault_by Hosts kind request bytes = host_field_fault kind request bytes

abbrev pub field_fault_of : CommandSet → Request → List ℕ → Option Condition
field_fault_of commands request bytes = field_fault_by commands.profile commands.kind request bytes
