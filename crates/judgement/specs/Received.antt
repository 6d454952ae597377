-- A command as a unit that has some commands received it from a nexus (SAM-5, "Execute Command procedure call").
use Rattle.std.specs.Prelude.{◌≡◌, ℕ, List, Result}
use Rattle.scsi_nexus.specs.declared.nexus.Nexus.{Nexus}
use Rattle.scsi_cdb.specs.declared.profile.CommandSet.{CommandSet}
use Rattle.scsi_sense.specs.declared.condition.Condition.{Condition}
use Rattle.device_server.specs.View.{DeviceView, commands_of}
use Rattle.judgement.specs.declared.command.Command.{Command}
use Rattle.judgement.specs.Commands.{decoded_command}

pub record ReceivedValue : Type 0 where
  pub nexus : Nexus
  pub commands : CommandSet
  pub cdb : List ℕ
  pub bytes : List ℕ

-- it came to a unit with this device
abbrev pub IsFor : DeviceView → ReceivedValue → Type 0
IsFor device received = received.commands ≡ commands_of device

-- the command that it is, or what is reported of bytes that decode to none
abbrev pub command_in : ReceivedValue → Result Command Condition
command_in received = decoded_command received.commands received.cdb received.bytes
