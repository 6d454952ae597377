-- What a file of the folder is, by its name.
use Rattle.std.specs.Prelude.{◌≡◌, ℕ, List, ◌++◌, codes, Some, None}
use Rattle.tape_medium.specs.declared.volume.VolumeTag.{VolumeTag}
use Rattle.library_inventory.specs.Names.{named}
use Rattle.media_folder.specs.declared.names.FileKind.{FileKind}
use Rattle.media_folder.specs.declared.names.FileKind.TheVariants.{Volume, NoTag, Other}

-- the ending of a volume's file
abbrev pub ending : List ℕ
ending = codes ".tap"

-- before the ending stands the tag of the volume, or something else; other files haven't the ending
abbrev pub IsKindOf : (name : List ℕ) → FileKind → Type 0
IsKindOf name (Volume tag) = (stem : List ℕ) × (name ≡ stem ++ ending) × (named stem ≡ Some tag)
IsKindOf name NoTag = (stem : List ℕ) × (name ≡ stem ++ ending) × (named stem ≡ None)
IsKindOf name Other = (stem : List ℕ) → ¬ (name ≡ stem ++ ending)

-- the path of a volume's file, FOLDER/NAME.tap, where the volume's tag is the one with that name
abbrev pub IsVolumePath : (folder : List ℕ) → (tag : VolumeTag) → (path : List ℕ) → Type 0
IsVolumePath folder tag path = (name : List ℕ) × (named name ≡ Some tag) × (path ≡ folder ++ (codes "/" ++ (name ++ ending)))
