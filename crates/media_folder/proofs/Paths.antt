-- A path names one volume.
use Rattle.std.proofs.Common.{◌≡◌, ◌∙◌, ap, sym, ℕ, List, ◌++◌}
use Rattle.std.specs.Prelude.{codes, Some}
use Rattle.std.proofs.lemmas.List.{append_cancel_left, append_cancel_right}
use Rattle.tape_medium.specs.declared.volume.VolumeTag.{VolumeTag}
use Rattle.library_inventory.specs.Names.{named}
use Rattle.media_folder.specs.Names.{IsVolumePath, ending}

pub one_volume : (folder path : List ℕ) (one other : VolumeTag) → IsVolumePath folder one path → IsVolumePath folder other path → one ≡ other
one_volume folder path one other p q =
    let behind : codes "/" ++ (p.0 ++ ending) ≡ codes "/" ++ (q.0 ++ ending) = append_cancel_left folder _ _ (sym p.2 ∙ q.2) in
    let name : p.0 ≡ q.0 = append_cancel_right p.0 q.0 ending (append_cancel_left (codes "/") _ _ behind) in
    let same : named p.0 ≡ named q.0 = ap named name in
    let both : Some one ≡ Some other = sym p.1 ∙ same ∙ q.1 in
    cc
