-- What a library is made of, and what its volumes hold.
use Rattle.std.specs.Prelude.{◌≡◌, ℕ, ◌≤◌, List, sum_by, Option, Some, None, Ok}
use Rattle.std.specs.Io.Iter.{u64_saturate}
use Rattle.tape_image.specs.declared.index.IndexedObject.{IndexedObject}
use Rattle.tape_image.specs.declared.index.IndexedObject.TheVariants.{Block, Mark}
use Rattle.library_inventory.specs.Sizes.{size_of}
use Rattle.library_inventory.specs.declared.element.LibrarySize.{LibrarySize}
use Rattle.program_options.specs.declared.given_library.GivenLibrary.{GivenLibrary}

-- a library can be made of this (profile)
pub record IsUsable (size : LibrarySize) : Type 0 where
  pub some_drives : 1 ≤ size.drives
  pub few_drives : size.drives ≤ 4
  pub some_slots : 1 ≤ size.slots
  pub few_slots : size.slots ≤ 1024
  pub few_import_exports : size.import_exports ≤ 16

-- by the inventory and the options, which agree
pub record IsDecided (given : GivenLibrary) (kept : Option LibrarySize) (size : LibrarySize) : Type 0 where
  pub agreed : size_of given kept ≡ Ok size
  pub usable : IsUsable size

-- as many volumes as were asked for, or one where nothing is kept yet
abbrev pub least_of : (volumes : Option ℕ) → (kept : Option LibrarySize) → ℕ
least_of (Some volumes) kept = volumes
least_of None None = 1
least_of None (Some size) = 0

-- how many bytes a block has, and the blocks of an image
abbrev pub size_of_entry : IndexedObject → ℕ
size_of_entry (Block offset size) = size
size_of_entry (Mark offset) = 0

abbrev pub held_in : List IndexedObject → ℕ
held_in objects = u64_saturate (sum_by size_of_entry objects)
