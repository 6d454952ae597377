-- The commands whose status needn't wait for the medium (SSC-4, "WRITE FILEMARKS(6) command", IMMED).
use Rattle.std.specs.Prelude.{Bool, false, Result, Ok, Err}
use Rattle.scsi_cdb.specs.declared.fault.CdbFault.{CdbFault}
use Rattle.scsi_cdb.specs.declared.kind.Kind.TheVariants.{Drive}
use Rattle.scsi_cdb.specs.declared.profile.Profile.TheVariants.{Hosts}
use Rattle.scsi_cdb.specs.declared.request.Request.{Request}
use Rattle.scsi_cdb.specs.Classes.{is_immediate}
use Rattle.scsi_cdb.specs.Commands.{decoded}
use Rattle.scsi_cdb.specs.Kinds.{commands}
use Rattle.logical_unit.specs.Answers.{EventValue, Loss, Reset, Command}

abbrev pub is_at_once : Result Request CdbFault → Bool
is_at_once (Ok request) = is_immediate request
is_at_once (Err fault) = false

-- Only drives have such commands. The hosts' profile decodes what the default one decodes, and to the same.
abbrev pub asks_at_once : EventValue → Bool
asks_at_once Loss = false
asks_at_once Reset = false
asks_at_once (Command cdb bytes) = is_at_once (decoded (commands Hosts Drive) cdb)
