-- The metrics of each volume in a drive (profile).
use Rattle.std.specs.Prelude.{ℕ, ◌-◌, List, [], ◌++◌, length, Some, None}
use Rattle.std.specs.List.{flat_map}
use Rattle.library_status.specs.Words.{trimmed}
use Rattle.library_status.specs.declared.summary.UnitContents.{UnitContents}
use Rattle.library_status.specs.declared.summary.UnitContents.TheVariants as contents
use Rattle.library_status.specs.declared.summary.UnitSummary.{UnitSummary}
use Rattle.library_status.specs.declared.summary.VolumeSummary.{VolumeSummary}
use Rattle.metrics_text.specs.Families.{family_name, heading}
use Rattle.metrics_text.specs.Words.{label_after, number_after, value_after}
use Rattle.metrics_text.specs.declared.word.Word.TheVariants as word
use Rattle.metrics_text.specs.declared.family.Family.TheVariants as family
use Rattle.metrics_text.specs.declared.family.VolumeNumber.{VolumeNumber}
use Rattle.metrics_text.specs.declared.family.VolumeNumber.TheVariants as number

-- of the objects of a volume its image lacks those behind the ones that are as they were when it was last copied
abbrev pub volume_value : VolumeNumber → VolumeSummary → ℕ
volume_value number.Position v = v.position
volume_value number.Objects v = v.objects
volume_value number.Unsaved v = v.objects - v.unchanged
volume_value number.Bytes v = v.bytes

-- the unit, and the tag without the spaces at its end
unfoldable pub place_of : (lun : ℕ) → VolumeSummary → List ℕ
place_of lun v = number_after word.Unit lun ++ label_after word.Volume (trimmed v.tag.0 (length v.tag.0))

unfoldable pub volume_line : VolumeNumber → (lun : ℕ) → VolumeSummary → List ℕ
volume_line n lun v = family_name (family.Volume n) ++ place_of lun v ++ value_after word.EndOfLabels (volume_value n v)

-- a changer has no line, and no drive without a volume
abbrev pub lines_of : VolumeNumber → (lun : ℕ) → UnitContents → List ℕ
lines_of n lun (contents.Changer elements) = []
lines_of n lun (contents.Drive None) = []
lines_of n lun (contents.Drive (Some v)) = volume_line n lun v

unfoldable pub volume_lines : VolumeNumber → UnitSummary → List ℕ
volume_lines n u = lines_of n u.lun u.contents

unfoldable pub volume_family : VolumeNumber → List UnitSummary → List ℕ
volume_family n us = heading (family.Volume n) ++ flat_map (volume_lines n) us

unfoldable pub volume_metrics : List UnitSummary → List ℕ
volume_metrics us =
    volume_family number.Position us ++ volume_family number.Objects us ++ volume_family number.Unsaved us
    ++ volume_family number.Bytes us
