-- The cartridges of a target: through every run there are the same ones, each as often as before.
use Rattle.std.specs.Prelude.{◌≡◌, ℕ, Bool, List, [], ◌∷◌, ◌++◌, map, IsPermutation, None}
use Rattle.tape_medium.specs.declared.volume.Volume.{Volume}
use Rattle.tape_medium.specs.declared.volume.VolumeTag.{VolumeTag}
use Rattle.device_server.specs.View.{DeviceView}
use Rattle.device_server.specs.Volumes.{volumes_of}
use Rattle.judgement.specs.declared.reply.Reply.{Reply}
use Rattle.logical_unit.specs.UnitView.{UnitView}
use Rattle.target_core.specs.declared.event.Event.{Event}
use Rattle.target_core.specs.Faults.{fault_of}
use Rattle.target_core.specs.Run.{Runs}

-- a volume without what is on its tape, and where that stands
pub record Cartridge : Type 0 where
  pub tag : VolumeTag
  pub protected : Bool
  pub capacity : ℕ

abbrev pub cartridge_of : Volume → Cartridge
cartridge_of volume = record { tag = volume.tag; protected = volume.protected; capacity = volume.tape.capacity }

-- those of the volumes of a device, and of all units
abbrev pub cartridges_of : DeviceView → List Cartridge
cartridges_of device = map cartridge_of (volumes_of device)

abbrev pub cartridges : List UnitView → List Cartridge
cartridges [] = []
cartridges (u ∷ us) = cartridges_of u.device ++ cartridges us

-- no run of a target loses one, doubles one or makes one
abbrev pub CartridgesStay : Type 0
CartridgesStay = (us vs : List UnitView) (es : List Event) (rs : List Reply) → fault_of us ≡ None → Runs us es rs vs → IsPermutation (cartridges us) (cartridges vs)
