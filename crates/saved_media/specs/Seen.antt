-- The image of a volume, as contracts see it.
use Rattle.std.specs.Prelude.{Bool}
use Rattle.tape_medium.specs.declared.volume.VolumeTag.{VolumeTag}

-- the tag of its volume, and whether that is as the image is, which can't be written
pub record SeenImage : Type 0 where
  pub tag : VolumeTag
  pub is_protected : Bool
