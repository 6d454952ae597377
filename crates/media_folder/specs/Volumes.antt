-- The volumes of a folder, each with its file.
use Rattle.std.specs.Prelude.{◌≡◌, ℕ, List, All}
use Rattle.tape_medium.specs.declared.volume.Volume.{Volume}
use Rattle.media_folder.specs.declared.reading.ReadVolume.{ReadVolume}
use Rattle.media_folder.specs.declared.images.KeptVolume.{KeptVolume}
use Rattle.media_folder.specs.Names.{IsVolumePath}
use Rattle.media_folder.specs.Stores.{FileStoreValue, is_read_only}

-- A VOLUME IS THE ONE THAT THE NAME OF ITS FILE SAYS, and it is protected just where the file is read alone
pub record IsVolumeOf (folder : List ℕ) (volume : Volume) (store : FileStoreValue) : Type 0 where
  pub named : IsVolumePath folder volume.tag store.path
  pub protected : volume.protected ≡ is_read_only store.access

-- those that were read, and those that are kept
abbrev pub AreRead : {A R : Type 0} → (folder : List ℕ) → List (ReadVolume A R) → Type 0
AreRead folder volumes = All (λ read. IsVolumeOf folder read.volume read.store) volumes

abbrev pub AreVolumesOf : {A R : Type 0} → (folder : List ℕ) → List (KeptVolume A R) → Type 0
AreVolumesOf folder volumes = All (λ kept. IsVolumeOf folder kept.volume kept.image.store) volumes
