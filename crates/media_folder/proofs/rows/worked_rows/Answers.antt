use Rattle.std.proofs.Common.{◌≡◌, refl, ap, arith}
use Rattle.std.specs.Prelude.{codes}
use Rattle.std.specs.List.{slice_index_or}
use Rattle.tape_medium.specs.declared.volume.VolumeTag.{VolumeTag}
use Rattle.media_folder.specs.Names.{IsVolumePath}
use Rattle.media_folder.proofs.Paths.{one_volume}
use Rattle.media_folder.proofs.rows.worked_rows.Goals as goal

pub returns-clause-volume : goal.returns-clause-volume
returns-clause-volume c = (codes "VOL00001", refl, refl)

pub returns-clause-another : goal.returns-clause-another
returns-clause-another c = λ p.
    let is_b : IsVolumePath (codes "tapes") (record { 0 = codes "B                               " }) (codes "tapes/B.tap") = (codes "B", refl, refl) in
    let same = one_volume (codes "tapes") (codes "tapes/B.tap") _ _ p is_b in
    let letters : 65 ≡ 66 = ap (λ (tag : VolumeTag). slice_index_or tag.0 0 0) same in
    omega (arith, letters)
