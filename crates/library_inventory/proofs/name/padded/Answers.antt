use Rattle.std.proofs.Common.{ℕ, List, ◌++◌, length, drop, replicate, ap, ◌∙◌}
use Rattle.std.proofs.lemmas.List.{drop-replicate}
use Rattle.tape_medium.specs.declared.volume.VolumeTag.{VolumeTag}
use Rattle.library_inventory.proofs.name.padded.Goals as goal

pub returns : goal.returns
returns c =
    let bytes = c.args.bytes.now in
    let n = length bytes in
    ap (λ (b : List ℕ). let tag : VolumeTag = record { 0 = b } in tag)
    (ap (λ (b : List ℕ). b ++ drop n (replicate 32 0x20)) c.copy_from_slice.ensures.after ∙ ap (λ (b : List ℕ). bytes ++ b) (drop-replicate n 32 0x20))
