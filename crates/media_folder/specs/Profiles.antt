-- The number of a library that is opened.
use Rattle.std.specs.Prelude.{◌≡◌, Some, None}
use Rattle.inquiry_data.specs.declared.library_number.LibraryNumber.{LibraryNumber}
use Rattle.library_inventory.specs.declared.profile.StartProfile.{StartProfile}
use Rattle.library_inventory.specs.declared.profile.StartProfile.TheVariants as start
use Rattle.program_options.specs.declared.library_profile.LibraryProfile.{LibraryProfile}
use Rattle.program_options.specs.declared.library_profile.LibraryProfile.TheVariants.{Spec, Hosts}

-- a library of the hosts' profile that has no number yet has some number then
abbrev pub IsNumbered : StartProfile → LibraryProfile → Type 0
IsNumbered start.Spec profile = profile ≡ Spec
IsNumbered (start.Hosts (Some number)) profile = profile ≡ Hosts number
IsNumbered (start.Hosts None) profile = (number : LibraryNumber) × (profile ≡ Hosts number)
