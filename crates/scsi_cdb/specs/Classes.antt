-- The class of each request: the row of the permission table that it is judged by.
use Rattle.std.specs.Prelude.{◌==◌, Bool, false, if◌then◌else◌}
use Rattle.scsi_cdb.specs.HostCommands.{host_class_of}
use Rattle.scsi_cdb.specs.declared.classes.Class.{Class}
use Rattle.scsi_cdb.specs.declared.classes.Class.TheVariants as class
use Rattle.scsi_cdb.specs.declared.service_action.OutServiceAction.{OutServiceAction}
use Rattle.scsi_cdb.specs.declared.service_action.OutServiceAction.TheVariants as out
use Rattle.scsi_cdb.specs.declared.request.Request.{Request}
use Rattle.scsi_cdb.specs.declared.request.Request.TheVariants as request

-- each service action of PERSISTENT RESERVE OUT is a class of its own
abbrev pub class_of_action : OutServiceAction → Class
class_of_action out.Register = class.Register
class_of_action out.Reserve = class.Reserve
class_of_action out.Release = class.Release
class_of_action out.Clear = class.Clear
class_of_action out.Preempt = class.Preempt
class_of_action out.PreemptAndAbort = class.PreemptAndAbort
class_of_action out.RegisterAndIgnoreExistingKey = class.RegisterAndIgnoreExistingKey
class_of_action out.RegisterAndMove = class.RegisterAndMove

-- each other command is one, but PREVENT ALLOW MEDIUM REMOVAL is two, by PREVENT, and READ ELEMENT STATUS
-- two, by CURDATA
abbrev pub class_of : Request → Class
class_of request.TestUnitReady = class.TestUnitReady
class_of request.Rewind = class.Rewind
class_of (request.RequestSense desc n) = class.RequestSense
class_of request.ReadBlockLimits = class.ReadBlockLimits
class_of request.InitializeElementStatus = class.InitializeElementStatus
class_of (request.Read sili fixed n) = class.Read
class_of (request.Write fixed n) = class.Write
class_of (request.WriteFilemarks wsmk immed n) = class.WriteFilemarks
class_of (request.Space code n) = class.Space
class_of (request.Inquiry evpd page n) = class.Inquiry
class_of (request.ModeSelect sp n) = class.ModeSelect
class_of request.Erase = class.Erase
class_of (request.ModeSense dbd pc page subpage n) = class.ModeSense
class_of (request.LoadUnload hold eot load) = class.LoadUnload
class_of (request.PreventAllowMediumRemoval prevent) = if prevent == 0 then class.AllowRemoval else class.PreventRemoval
class_of (request.Locate bt cp n partition) = class.Locate
class_of request.ReadPosition = class.ReadPosition
class_of (request.PersistentReserveIn action n) = class.PersistentReserveIn
class_of (request.PersistentReserveOut action scope_type n) = class_of_action action
class_of (request.ReportLuns select n) = class.ReportLuns
class_of (request.MoveMedium transport source destination invert) = class.MoveMedium
class_of (request.ReadElementStatus voltag type_code start count curdata dvcid n) =
    if curdata then class.ReadElementStatusCurdata else class.ReadElementStatus
class_of (request.Host command) = host_class_of command

-- whether the status needn't wait for the medium
abbrev pub is_immediate : Request → Bool
is_immediate (request.WriteFilemarks wsmk immed n) = immed
is_immediate request = false
