-- The volumes of an inventory.
use Rattle.std.specs.Prelude.{◌≡◌, ◌||◌, true, false, List, [], ◌∷◌, ◌++◌}
use Rattle.program_options.specs.declared.library_profile.LibraryProfile.{LibraryProfile}
use Rattle.library_inventory.specs.declared.element.LibrarySize.{LibrarySize}
use Rattle.library_inventory.specs.declared.fault.AddFault.{AddFault}
use Rattle.library_inventory.specs.declared.fault.AddFault.TheVariants.{NoElement, ElementTwice, TagTwice, BadSource, NoMemory}
use Rattle.library_inventory.specs.declared.placed.PlacedVolume.{PlacedVolume}
use Rattle.library_inventory.specs.Elements.{IsElementOf, IsSourceAt}
use Rattle.library_inventory.specs.Tests.{is_named, is_full}

-- it lies in an element of the library, in which none of the others lies, it has a source of the library if it has one, and none of them or
-- of the missing ones has its tag
abbrev pub IsAddable : LibrarySize → (volumes missing : List PlacedVolume) → PlacedVolume → Type 0
IsAddable size volumes missing volume =
    IsElementOf size volume.element × (is_full volumes volume.element ≡ false)
    × (is_named volumes volume.tag ≡ false) × (is_named missing volume.tag ≡ false)
    × IsSourceAt size volume.element volume.source

-- it lay in an element of the library, in which another may lie now, it has a source as the others have, and no other volume has its tag
abbrev pub IsMissable : LibrarySize → (volumes missing : List PlacedVolume) → PlacedVolume → Type 0
IsMissable size volumes missing volume =
    IsElementOf size volume.element × (is_named volumes volume.tag ≡ false) × (is_named missing volume.tag ≡ false)
    × IsSourceAt size volume.element volume.source

-- volumes that were added one behind the other, and missing ones, too
pub data AreKept (size : LibrarySize) : (volumes missing : List PlacedVolume) → Type 0 where
  no_volume : AreKept size [] []
  one_more : (volumes missing : List PlacedVolume) (volume : PlacedVolume) → AreKept size volumes missing
      → IsAddable size volumes missing volume → AreKept size (volumes ++ volume ∷ []) missing
  one_missing : (volumes missing : List PlacedVolume) (volume : PlacedVolume) → AreKept size volumes missing
      → IsMissable size volumes missing volume → AreKept size volumes (missing ++ volume ∷ [])

-- the profile and the size of a library, its volumes in the order in which they were added, and those that are missing
pub record InventoryValue : Type 0 where
  pub profile : LibraryProfile
  pub size : LibrarySize
  pub volumes : List PlacedVolume
  pub missing : List PlacedVolume

-- why a volume isn't added, in the order of the tests; also for want of memory
abbrev pub IsAddFault : LibrarySize → (volumes missing : List PlacedVolume) → PlacedVolume → AddFault → Type 0
IsAddFault size volumes missing volume NoElement = ¬ IsElementOf size volume.element
IsAddFault size volumes missing volume ElementTwice = is_full volumes volume.element ≡ true
IsAddFault size volumes missing volume TagTwice = (is_named volumes volume.tag || is_named missing volume.tag) ≡ true
IsAddFault size volumes missing volume BadSource = ¬ IsSourceAt size volume.element volume.source
IsAddFault size volumes missing volume NoMemory = Unit {0}

-- the same of a missing one
abbrev pub IsMissFault : LibrarySize → (volumes missing : List PlacedVolume) → PlacedVolume → AddFault → Type 0
IsMissFault size volumes missing volume NoElement = ¬ IsElementOf size volume.element
IsMissFault size volumes missing volume ElementTwice = ⊥
IsMissFault size volumes missing volume TagTwice = (is_named volumes volume.tag || is_named missing volume.tag) ≡ true
IsMissFault size volumes missing volume BadSource = ¬ IsSourceAt size volume.element volume.source
IsMissFault size volumes missing volume NoMemory = Unit {0}
