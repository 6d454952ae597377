-- What a library can be made of (profile).
use Rattle.std.specs.Prelude.{◌≤◌}
use Rattle.library_inventory.specs.declared.element.LibrarySize.{LibrarySize}

pub record IsMade (size : LibrarySize) : Type 0 where
  pub some_drives : 1 ≤ size.drives
  pub few_drives : size.drives ≤ 4
  pub some_slots : 1 ≤ size.slots
  pub few_slots : size.slots ≤ 1024
  pub few_import_exports : size.import_exports ≤ 16
