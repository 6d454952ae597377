-- Two blocks and a filemark in a drive and in a storage element, settled.
use Rattle.std.specs.Prelude.{◌≡◌, ◌≢◌, ℕ, [], ◌∷◌, Some, None, false, true}
use Rattle.tape_medium.specs.Object.{Block, Mark}
use Rattle.tape_medium.specs.TapeView.{TapeView}
use Rattle.tape_medium.specs.declared.volume.VolumeTag.{VolumeTag}
use Rattle.tape_medium.specs.declared.volume.Volume.{Volume}
use Rattle.device_server.specs.HostChanger.{spec_changer}
use Rattle.device_server.specs.View.{DeviceView, Drive, Changer}
use Rattle.device_server.specs.Settled.{settled_at, unsettled, SameButSettled}

abbrev pub three : (position unchanged : ℕ) → TapeView
three position unchanged =
    record { objects = Block (1 ∷ []) ∷ Block (2 ∷ []) ∷ Mark ∷ []; position = position; capacity = 10; unchanged = unchanged }

abbrev pub volume : VolumeTag → (position unchanged : ℕ) → Volume
volume tag position unchanged = record { tag = tag; protected = false; tape = three position unchanged }

abbrev pub drive : VolumeTag → (position unchanged : ℕ) → DeviceView
drive tag position unchanged = Drive (record { bay = Some (volume tag position unchanged); loaded = true; block_length = 0; hosts = None })

-- one drive, and two storage elements, of which the second is full
abbrev pub changer : VolumeTag → (unchanged : ℕ) → DeviceView
changer tag unchanged =
    Changer (spec_changer (record { data_transfer = None ∷ []; import_export = []; storage = None ∷ Some (volume tag 0 unchanged) ∷ [] }))

pub record SettledDevices (tag : VolumeTag) : Type 0 where
  pub bay : settled_at (drive tag 3 1) 0 2 ≡ drive tag 3 2
  pub all : settled_at (drive tag 3 1) 0 4 ≡ drive tag 3 3
  pub elsewhere : settled_at (drive tag 3 1) 1 2 ≡ drive tag 3 1
  pub element : settled_at (changer tag 0) 0x401 3 ≡ changer tag 3
  pub empty_element : settled_at (changer tag 0) 0x400 3 ≡ changer tag 0
  pub drives_element : settled_at (changer tag 0) 0x100 3 ≡ changer tag 0
  pub same : SameButSettled (drive tag 3 1) (drive tag 3 2)
  pub other_position : unsettled (drive tag 3 1) ≢ unsettled (drive tag 2 1)
  pub none_there : unsettled (changer tag 0) ≢ unsettled (Changer (spec_changer (record { data_transfer = None ∷ []; import_export = []; storage = None ∷ None ∷ [] })))
