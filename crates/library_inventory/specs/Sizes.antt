-- The size of a library that is started.
use Rattle.std.specs.Prelude.{ℕ, ◌==◌, Option, Some, None, Result, Ok, Err, unwrap_or, if◌then◌else◌}
use Rattle.library_inventory.specs.declared.element.LibrarySize.{LibrarySize}
use Rattle.library_inventory.specs.declared.fault.SizeOption.{SizeOption}
use Rattle.library_inventory.specs.declared.fault.SizeOption.TheVariants.{Drives, Slots, ImportExports}
use Rattle.library_inventory.specs.declared.fault.StartFault.{StartFault}
use Rattle.library_inventory.specs.declared.fault.StartFault.TheVariants.{Disagrees}
use Rattle.program_options.specs.declared.given_library.GivenLibrary.{GivenLibrary}

-- an option that is given is what the inventory has; else both are told
abbrev pub agreed : SizeOption → (given : Option ℕ) → (kept : ℕ) → Result (Unit {0}) StartFault
agreed option None kept = Ok tt
agreed option (Some given) kept = if given == kept then Ok tt else Err (Disagrees option given kept)

-- the first of two results that isn't good
abbrev pub and_then : {T : Type 0} → Result (Unit {0}) StartFault → Result T StartFault → Result T StartFault
and_then (Ok done) next = next
and_then (Err fault) next = Err fault

-- one drive, eight storage elements and no import/export element are usual
abbrev pub usual_size : GivenLibrary → LibrarySize
usual_size given = record { drives = unwrap_or given.drives 1; slots = unwrap_or given.slots 8; import_exports = unwrap_or given.import_exports 0 }

-- that of the inventory, with which the options agree, or without one what they say
abbrev pub size_of : GivenLibrary → (kept : Option LibrarySize) → Result LibrarySize StartFault
size_of given None = Ok (usual_size given)
size_of given (Some kept) =
    and_then (agreed Drives given.drives kept.drives) (and_then (agreed Slots given.slots kept.slots) (and_then (agreed ImportExports given.import_exports kept.import_exports) (Ok kept)))
