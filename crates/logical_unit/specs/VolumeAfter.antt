-- The volume that a command was carried out on, as the device tells that it was sent to.
use Rattle.std.specs.Prelude.{ℕ, List, Option, None, Some}
use Rattle.scsi_cdb.specs.declared.kind.Kind.TheVariants.{Drive, Changer}
use Rattle.tape_medium.specs.declared.volume.VolumeTag.{VolumeTag}
use Rattle.device_server.specs.View.{DeviceView, kind_of, commands_of, drives_of, held_in}
use Rattle.logical_unit.specs.declared.route.Errand.{Errand}
use Rattle.logical_unit.specs.declared.route.ExchangeRoute.{ExchangeRoute}
use Rattle.logical_unit.specs.declared.route.Errand.TheVariants.{Move, Exchange}
use Rattle.logical_unit.specs.Route.{errand_of}

-- where the volume ends that a drive gives in an exchange; where no drive gives one, the first destination
abbrev pub given_end : ExchangeRoute → ℕ
given_end route = elim route.between [ None ↦ route.first | Some drive ↦ route.second ]

-- the one where a move ends, in a drive by its mark; of an exchange the one that a drive gave
abbrev pub at_end : DeviceView → Option Errand → Option VolumeTag
at_end device None = None
at_end device (Some (Move route)) = held_in device route.destination
at_end device (Some (Exchange route)) = held_in device (given_end route)

-- after a command: at a drive the one in its bay, at a changer the one where a MOVE MEDIUM ends, or what a drive gave in an EXCHANGE MEDIUM
abbrev pub volume_after : DeviceView → (cdb : List ℕ) → Option VolumeTag
volume_after device cdb = elim (kind_of device) [
  | Drive ↦ held_in device 0
  | Changer ↦ at_end device (errand_of (commands_of device) (drives_of device) cdb)
]
