use Rattle.std.proofs.Common.{◌≡◌, ◌<◌, ◌≤◌, ◌++◌, ℕ, List, length, length-take, map, take, zip, ap, subst, ◌∙◌, arith}
use Rattle.std.proofs.lemmas.List.Sorted.{length_permutation}
use Rattle.std.specs.List.Sorted.{IsPermutation}
use Rattle.tape_medium.specs.declared.volume.VolumeTag.{VolumeTag}
use Rattle.library_inventory.specs.declared.placed.PlacedVolume.{PlacedVolume}
use Rattle.library_inventory.specs.Starts.{absent_volumes, lying_volumes, made_count, other_images, unused_tags, free_storage, stored_at}
use Rattle.library_inventory.proofs.placing.place.Goals as goal

pub returns-then-len-clause-err : goal.returns-then-len-clause-err
returns-then-len-clause-err c =
    let named = c.args.named.now in
    let missing = c.args.missing.now in
    let images = c.args.images.now in
    let left_out = c.args.left_out.now in
    let lying = lying_volumes named missing images in
    let others = c.in_ok-others.others in
    let free = c.in_ok-free.free in
    let unused = unused_tags named missing images left_out in
    let wanted = made_count c.args.least images left_out (absent_volumes named missing images) in
    let count : c.count_to_make-count.result ≡ wanted =
    c.count_to_make-count.ensures ∙ ap (λ (vs : List PlacedVolume). made_count c.args.least images left_out vs) (c.deref.ensures.value ∙ c.in_ok-absent.ensures) in
    let made : c.deref-3.result.now ≡ take wanted unused =
    c.deref-3.ensures.value ∙ c.in_ok-made.ensures ∙ ap (λ (k : ℕ). take k unused) count in
    let size : length others.items ≡ length (other_images lying images ++ take wanted unused) =
    length_permutation _ _ c.in_ok-others.ensures.same
    ∙ ap (λ (tags : List VolumeTag). length (other_images c.deref-2.result.now images ++ tags)) made
    ∙ ap (λ (vs : List PlacedVolume). length (other_images vs images ++ take wanted unused)) (c.deref-2.ensures.value ∙ c.in_ok-volumes.ensures) in
    let room : length free.items ≡ length (free_storage c.args.slots lying) =
    ap length (c.in_ok-free.ensures ∙ ap (λ (vs : List PlacedVolume). free_storage c.args.slots vs) (c.deref-4.ensures.value ∙ c.in_ok-volumes.ensures)) in (
      omega (arith, c.len-then-len.ensures, others.ok.0, size),
      omega (arith, c.len-then-len-2.ensures, free.ok.0, room),
      omega (arith, c.len-then-len.ensures, c.len-then-len-2.ensures, c.if-len.true, c.len-2.ensures, c.len-3.ensures),
    )

pub returns-clause-ok : goal.returns-clause-ok
returns-clause-ok c =
    let named = c.args.named.now in
    let missing = c.args.missing.now in
    let images = c.args.images.now in
    let left_out = c.args.left_out.now in
    let lying = lying_volumes named missing images in
    let others = c.in_ok-others.others in
    let free = c.in_ok-free.free in
    let unused = unused_tags named missing images left_out in
    let wanted = made_count c.args.least images left_out (absent_volumes named missing images) in
    let count : c.count_to_make-count.result ≡ wanted =
    c.count_to_make-count.ensures ∙ ap (λ (vs : List PlacedVolume). made_count c.args.least images left_out vs) (c.deref.ensures.value ∙ c.in_ok-absent.ensures) in
    let room : free.items ≡ free_storage c.args.slots lying =
    c.in_ok-free.ensures ∙ ap (λ (vs : List PlacedVolume). free_storage c.args.slots vs) (c.deref-4.ensures.value ∙ c.in_ok-volumes.ensures) in
    let size : length c.in_ok-made.made.items ≤ length unused = omega (arith, ap length c.in_ok-made.ensures, length-take c.count_to_make-count.result unused) in
    record {
      others = others.items;
      sorted = c.in_ok-others.ensures.sorted;
      same =
          subst (λ (vs : List PlacedVolume). IsPermutation (other_images vs images ++ c.in_ok-made.made.items) others.items) (c.deref-2.ensures.value ∙ c.in_ok-volumes.ensures)
          (subst (λ (tags : List VolumeTag). IsPermutation (other_images c.deref-2.result.now images ++ tags) others.items) c.deref-3.ensures.value c.in_ok-others.ensures.same);
      enough = omega (arith, ap length room, c.if-len.false, c.len-2.ensures, c.len-3.ensures, others.ok.0, free.ok.0);
      volumes =
          c.in_ok-extend_from_slice.ensures.items
          ∙ ap (λ (vs : List PlacedVolume). vs ++ c.deref-7.result.now) c.in_ok-volumes.ensures
          ∙ ap (λ (vs : List PlacedVolume). lying ++ vs) (c.deref-7.ensures.value ∙ c.in_ok-stored.ensures)
          ∙ ap (λ (tags : List VolumeTag). lying ++ map stored_at (zip tags c.deref-6.result.now)) c.deref-5.ensures.value
          ∙ ap (λ (numbers : List ℕ). lying ++ map stored_at (zip others.items numbers)) (c.deref-6.ensures.value ∙ room);
      made = c.in_ok-made.ensures ∙ ap (λ (k : ℕ). take k unused) count;
      all_made = omega (arith, count, size, c.if-len-count.false, c.len.ensures, c.in_ok-made.made.ok.0);
      absent = c.in_ok-absent.ensures;
    }

pub returns-then-len-count-clause-err : goal.returns-then-len-count-clause-err
returns-then-len-count-clause-err c =
    let named = c.args.named.now in
    let missing = c.args.missing.now in
    let images = c.args.images.now in
    let left_out = c.args.left_out.now in
    let unused = unused_tags named missing images left_out in
    let wanted = made_count c.args.least images left_out (absent_volumes named missing images) in
    let count : c.count_to_make-count.result ≡ wanted =
    c.count_to_make-count.ensures ∙ ap (λ (vs : List PlacedVolume). made_count c.args.least images left_out vs) (c.deref.ensures.value ∙ c.in_ok-absent.ensures) in
    let size : length c.in_ok-made.made.items < c.count_to_make-count.result =
    omega (arith, c.if-len-count.true, c.len.ensures, c.in_ok-made.made.ok.0) in
    omega (arith, size, count, ap length c.in_ok-made.ensures, length-take c.count_to_make-count.result unused)
