-- Where each volume lies at a start.
use Rattle.std.specs.Prelude.{◌≡◌, Bool, ℕ, ◌-◌, ◌<◌, ◌≤◌, not, ◌&&◌, ◌||◌, if◌then◌else◌, List, [], ◌∷◌, ◌++◌, length, take, map, filter, fold, count_by, zip, None, IsPermutation}
use Rattle.std.specs.List.{range_with_len}
use Rattle.std.specs.List.Sorted.{IsSorted}
use Rattle.tape_medium.specs.declared.volume.VolumeTag.{VolumeTag}
use Rattle.library_inventory.specs.declared.element.Element.TheVariants.{Storage}
use Rattle.library_inventory.specs.declared.placed.PlacedVolume.{PlacedVolume}
use Rattle.library_inventory.specs.declared.fault.StartFault.{StartFault}
use Rattle.library_inventory.specs.declared.fault.StartFault.TheVariants.{NoMemory, Disagrees, MoreVolumes, NoTags, KeptForHosts, OtherNumber, NumberWithoutHosts}
use Rattle.library_inventory.specs.declared.placing.Start.{Start}
use Rattle.library_inventory.specs.Tags.{tag_cmp, usual_tags}
use Rattle.library_inventory.specs.Tests.{has_tag, is_named, is_full}

-- named volumes whose images can be read lie where they lay
abbrev pub kept_volumes : (named : List PlacedVolume) → (images : List VolumeTag) → List PlacedVolume
kept_volumes named images = filter (λ volume. has_tag images volume.tag) named

-- a volume that was missing, and whose image can be read again, goes back to its element, if none of the others lies in it
abbrev pub put_back : (images : List VolumeTag) → (others : List PlacedVolume) → PlacedVolume → List PlacedVolume
put_back images others volume =
    if has_tag images volume.tag && not (is_full others volume.element) then others ++ volume ∷ [] else others

-- all that lie where they lay: named ones, and behind them those that were missing, in their order
abbrev pub lying_volumes : (named missing : List PlacedVolume) → (images : List VolumeTag) → List PlacedVolume
lying_volumes named missing images = fold (put_back images) (kept_volumes named images) missing

-- volumes whose images can't be read; they are missing, named ones first
abbrev pub without_image : (volumes : List PlacedVolume) → (images : List VolumeTag) → List PlacedVolume
without_image volumes images = filter (λ volume. not (has_tag images volume.tag)) volumes

abbrev pub absent_volumes : (named missing : List PlacedVolume) → (images : List VolumeTag) → List PlacedVolume
absent_volumes named missing images = without_image named images ++ without_image missing images

-- images of volumes that don't lie where they lay
abbrev pub other_images : (lying : List PlacedVolume) → (images : List VolumeTag) → List VolumeTag
other_images lying images = filter (λ tag. not (is_named lying tag)) images

-- how many volumes are made, so that there are so many at least with the images, those that are missing, and those that are left out and
-- in no list
abbrev pub made_count : (least : ℕ) (images left_out : List VolumeTag) (absent : List PlacedVolume) → ℕ
made_count least images left_out absent =
    least - length images - length absent - count_by (λ tag. not (is_named absent tag)) left_out

-- whether a file or a volume of the inventory has a tag
abbrev pub is_used : (named missing : List PlacedVolume) → (images left_out : List VolumeTag) → VolumeTag → Bool
is_used named missing images left_out tag = has_tag images tag || has_tag left_out tag || is_named named tag || is_named missing tag

-- those of some tags that nothing has
abbrev pub unused_of : (tags : List VolumeTag) → (named missing : List PlacedVolume) → (images left_out : List VolumeTag) → List VolumeTag
unused_of tags named missing images left_out = filter (λ tag. not (is_used named missing images left_out tag)) tags

-- they take the first tags that no file and no volume of the inventory has
abbrev pub unused_tags : (named missing : List PlacedVolume) → (images left_out : List VolumeTag) → List VolumeTag
unused_tags = unused_of usual_tags

-- storage elements in which no volume lies, by their numbers
abbrev pub free_storage : (slots : ℕ) → List PlacedVolume → List ℕ
free_storage slots volumes = filter (λ number. not (is_full volumes (Storage number))) (range_with_len 0 slots)

abbrev pub stored_at : VolumeTag × ℕ → PlacedVolume
stored_at place = record { tag = place.0; element = Storage place.1; source = None }

-- A START: so many storage elements, how many volumes there are to be at least, the volumes that the inventory names and those that it
-- has as missing, the images that can be read, and the volumes whose files are there and can't be served
pub record IsStart (slots least : ℕ) (named missing : List PlacedVolume) (images left_out : List VolumeTag) (start : Start) : Type 0 where
  -- images of volumes that don't lie where they lay, and volumes that are made, in order of their tags
  pub others : List VolumeTag
  pub sorted : IsSorted tag_cmp others
  pub same : IsPermutation (other_images (lying_volumes named missing images) images ++ start.made.items) others
  -- they lie in the first free storage elements
  pub enough : length others ≤ length (free_storage slots (lying_volumes named missing images))
  pub volumes : start.volumes.items
      ≡ lying_volumes named missing images ++ map stored_at (zip others (free_storage slots (lying_volumes named missing images)))
  pub made : start.made.items
      ≡ take (made_count least images left_out (absent_volumes named missing images)) (unused_tags named missing images left_out)
  pub all_made : made_count least images left_out (absent_volumes named missing images) ≤ length (unused_tags named missing images left_out)
  pub absent : start.missing.items ≡ absent_volumes named missing images

-- why there is no start: want of memory, too few tags, or too few free storage elements for the others, of which there are so many
abbrev pub IsPlaceFault : (slots least : ℕ) (named missing : List PlacedVolume) (images left_out : List VolumeTag) → StartFault → Type 0
IsPlaceFault slots least named missing images left_out NoMemory = Unit {0}
IsPlaceFault slots least named missing images left_out NoTags =
    length (unused_tags named missing images left_out) < made_count least images left_out (absent_volumes named missing images)
IsPlaceFault slots least named missing images left_out (MoreVolumes volumes free) =
    (volumes
    ≡ length (other_images (lying_volumes named missing images) images
    ++ take (made_count least images left_out (absent_volumes named missing images)) (unused_tags named missing images left_out)))
    × (free ≡ length (free_storage slots (lying_volumes named missing images)))
    × (free < volumes)
IsPlaceFault slots least named missing images left_out (Disagrees option given kept) = ⊥
IsPlaceFault slots least named missing images left_out KeptForHosts = ⊥
IsPlaceFault slots least named missing images left_out (OtherNumber given kept) = ⊥
IsPlaceFault slots least named missing images left_out NumberWithoutHosts = ⊥
