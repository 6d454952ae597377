-- How much a library can be made of, and what one is made of by what was said of it (profile).
use Rattle.std.specs.Prelude.{ℕ, ◌≤◌, Option, IfSome, unwrap_or}
use Rattle.program_options.specs.declared.given_library.GivenLibrary.{GivenLibrary}
use Rattle.program_options.specs.declared.library_options.LibraryOptions.{LibraryOptions}

pub record AreInRange (options : LibraryOptions) : Type 0 where
  pub some_drives : 1 ≤ options.drives
  pub few_drives : options.drives ≤ 4
  pub some_slots : 1 ≤ options.slots
  pub few_slots : options.slots ≤ 1024
  pub few_import_exports : options.import_exports ≤ 16
  pub few_volumes : options.volumes ≤ 1024
  pub least_size : 1048576 ≤ options.volume_size
  pub most_size : options.volume_size ≤ 68719476736

-- a number, if there is one, from the least to the most
abbrev pub IsWithin : (least most : ℕ) → Option ℕ → Type 0
IsWithin least most number = IfSome number (λ n. (least ≤ n) × (n ≤ most))

-- what was said is in the same ranges
pub record AreGivenInRange (given : GivenLibrary) : Type 0 where
  pub drives : IsWithin 1 4 given.drives
  pub slots : IsWithin 1 1024 given.slots
  pub import_exports : IsWithin 0 16 given.import_exports
  pub volumes : IsWithin 0 1024 given.volumes

-- one drive, eight storage elements, no import/export element and one volume are usual
abbrev pub options_of : GivenLibrary → (volume_size : ℕ) → LibraryOptions
options_of given volume_size = record {
  drives = unwrap_or given.drives 1;
  slots = unwrap_or given.slots 8;
  import_exports = unwrap_or given.import_exports 0;
  volumes = unwrap_or given.volumes 1;
  volume_size = volume_size;
}
