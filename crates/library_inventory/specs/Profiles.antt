-- The profile of a library that is started.
use Rattle.std.specs.Prelude.{◌≡◌, ◌==◌, Option, Some, None, Result, Ok, Err, unwrap_or, if◌then◌else◌}
use Rattle.scsi_cdb.specs.declared.profile.Profile.{Profile}
use Rattle.scsi_cdb.specs.declared.profile.Profile.TheVariants as profile
use Rattle.inquiry_data.specs.declared.library_number.LibraryNumber.{LibraryNumber}
use Rattle.program_options.specs.declared.given_profile.GivenProfile.{GivenProfile}
use Rattle.program_options.specs.declared.library_profile.LibraryProfile.{LibraryProfile}
use Rattle.program_options.specs.declared.library_profile.LibraryProfile.TheVariants as library
use Rattle.program_options.specs.Profiles.{is_fitting}
use Rattle.library_inventory.specs.declared.fault.StartFault.{StartFault}
use Rattle.library_inventory.specs.declared.fault.StartFault.TheVariants.{KeptForHosts, OtherNumber, NumberWithoutHosts}
use Rattle.library_inventory.specs.declared.profile.StartProfile.{StartProfile}
use Rattle.library_inventory.specs.declared.profile.StartProfile.TheVariants.{Spec, Hosts}

-- of a profile, with the number that it has already, if it has one
abbrev pub start_profile : Profile → Option LibraryNumber → StartProfile
start_profile profile.Spec number = Spec
start_profile profile.Hosts number = Hosts number

-- which profile it is
abbrev pub profile_started : StartProfile → Profile
profile_started Spec = profile.Spec
profile_started (Hosts number) = profile.Hosts

-- a library that is made, or is kept with the default profile: of the default profile unless another is given
abbrev pub new_profile : GivenProfile → Result StartProfile StartFault
new_profile given =
    if is_fitting given then Ok (start_profile (unwrap_or given.profile profile.Spec) given.library_number)
    else Err NumberWithoutHosts

-- a number that is given is the kept one; else both are told
abbrev pub agreed_number : (given : Option LibraryNumber) → (kept : LibraryNumber) → Result StartProfile StartFault
agreed_number None kept = Ok (Hosts (Some kept))
agreed_number (Some given) kept = if given.number == kept.number then Ok (Hosts (Some kept)) else Err (OtherNumber given kept)

-- a library that is kept with the hosts' profile stays so
abbrev pub stays_for_hosts : Profile → (given : Option LibraryNumber) → (kept : LibraryNumber) → Result StartProfile StartFault
stays_for_hosts profile.Spec given kept = Err KeptForHosts
stays_for_hosts profile.Hosts given kept = agreed_number given kept

-- by what is given, and by what is kept, if there is a library
abbrev pub profile_at_start : GivenProfile → (kept : Option LibraryProfile) → Result StartProfile StartFault
profile_at_start given None = new_profile given
profile_at_start given (Some library.Spec) = new_profile given
profile_at_start given (Some (library.Hosts number)) = stays_for_hosts (unwrap_or given.profile profile.Hosts) given.library_number number

-- what a kept library is at a start at which nothing is given
abbrev pub as_kept : LibraryProfile → StartProfile
as_kept library.Spec = Spec
as_kept (library.Hosts number) = Hosts (Some number)

abbrev pub nothing_given : GivenProfile
nothing_given = record { profile = None; library_number = None }

-- a library opens as it is kept where nothing is given
abbrev pub OpensAsKept : Type 0
OpensAsKept = (kept : LibraryProfile) → profile_at_start nothing_given (Some kept) ≡ Ok (as_kept kept)

-- whatever is given, one that is kept with the hosts' profile and is started has its number then
abbrev pub NumbersStay : Type 0
NumbersStay = (given : GivenProfile) (number : LibraryNumber) (start : StartProfile)
    → profile_at_start given (Some (library.Hosts number)) ≡ Ok start → start ≡ Hosts (Some number)
