-- A library that is kept stays as it is.
use Rattle.std.proofs.Common.{◌≡◌, ◌==◌, Bool, true, false, Option, Some, None, Result, Ok, Err, refl}
use Rattle.std.specs.Prelude.{unwrap_or, if◌then◌else◌}
use Rattle.scsi_cdb.specs.declared.profile.Profile.{Profile}
use Rattle.scsi_cdb.specs.declared.profile.Profile.TheVariants as profile
use Rattle.inquiry_data.specs.declared.library_number.LibraryNumber.{LibraryNumber}
use Rattle.program_options.specs.declared.given_profile.GivenProfile.{GivenProfile}
use Rattle.program_options.specs.declared.library_profile.LibraryProfile.{LibraryProfile}
use Rattle.program_options.specs.declared.library_profile.LibraryProfile.TheVariants as library
use Rattle.library_inventory.specs.declared.fault.StartFault.{StartFault}
use Rattle.library_inventory.specs.declared.fault.StartFault.TheVariants.{OtherNumber}
use Rattle.library_inventory.specs.declared.profile.StartProfile.{StartProfile}
use Rattle.library_inventory.specs.declared.profile.StartProfile.TheVariants.{Hosts}
use Rattle.library_inventory.specs.Profiles.{stays_for_hosts, OpensAsKept, NumbersStay}

pub opens_as_kept : OpensAsKept
opens_as_kept library.Spec = refl
opens_as_kept (library.Hosts number) = refl

-- of two numbers, which agree or don't
by_numbers : (same : Bool) (given number : LibraryNumber) (start : StartProfile)
    → ◌≡◌ {A = Result StartProfile StartFault} (if same then Ok (Hosts (Some number)) else Err (OtherNumber given number)) (Ok start)
    → start ≡ Hosts (Some number)
by_numbers true given number start h = cc
by_numbers false given number start h = absurd cc

by_profile : (p : Profile) (given : Option LibraryNumber) (number : LibraryNumber) (start : StartProfile)
    → stays_for_hosts p given number ≡ Ok start → start ≡ Hosts (Some number)
by_profile profile.Spec given number start h = absurd cc
by_profile profile.Hosts None number start h = cc
by_profile profile.Hosts (Some given) number start h = by_numbers (given.number == number.number) given number start h

pub numbers_stay : NumbersStay
numbers_stay given number start h = by_profile (unwrap_or given.profile profile.Hosts) given.library_number number start h
