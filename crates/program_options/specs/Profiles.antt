-- The profile of a library, and the number that a library of the hosts' profile has (profile).
use Rattle.std.specs.Prelude.{ℕ, Bool, true, false, List, take, codes, Option, Some, None, Result, Ok, Err, unwrap_or, if◌then◌else◌}
use Rattle.std.specs.Str.{bytes_eq}
use Rattle.std.specs.Int.{w32, from_be_bytes}
use Rattle.sha2.specs.Sha256.{sha256}
use Rattle.scsi_cdb.specs.declared.profile.Profile.{Profile}
use Rattle.scsi_cdb.specs.declared.profile.Profile.TheVariants as profile
use Rattle.inquiry_data.specs.declared.library_number.LibraryNumber.{LibraryNumber}
use Rattle.inquiry_data.specs.Identity.{library, library_number_in}
use Rattle.program_options.specs.declared.given_profile.GivenProfile.{GivenProfile}
use Rattle.program_options.specs.declared.library_profile.LibraryProfile.{LibraryProfile}
use Rattle.program_options.specs.declared.library_profile.LibraryProfile.TheVariants.{Spec, Hosts}
use Rattle.program_options.specs.declared.option_fault.OptionFault.{OptionFault}
use Rattle.program_options.specs.declared.option_fault.OptionFault.TheVariants.{BadProfile, BadLibraryNumber}

-- a profile by its name
abbrev pub profile_in : List ℕ → Result Profile OptionFault
profile_in text =
    if bytes_eq text (codes "spec") then Ok profile.Spec
    else if bytes_eq text (codes "hosts") then Ok profile.Hosts
    else Err BadProfile

abbrev pub number_by : Option LibraryNumber → Result LibraryNumber OptionFault
number_by None = Err BadLibraryNumber
number_by (Some number) = Ok number

-- a number by its 8 hexadecimal digits
abbrev pub number_in : List ℕ → Result LibraryNumber OptionFault
number_in text = number_by (library_number_in text)

-- the number of a library whose target has this iSCSI name: the first 32 bits of the SHA-256 of the name
unfoldable pub number_of_target : (name : List ℕ) → LibraryNumber
number_of_target name = library (from_be_bytes w32 (take 4 (sha256 name)))

-- which profile a library has
abbrev pub profile_of : LibraryProfile → Profile
profile_of Spec = profile.Spec
profile_of (Hosts number) = profile.Hosts

-- with a number, if it is to have one
abbrev pub with_number : Profile → LibraryNumber → LibraryProfile
with_number profile.Spec number = Spec
with_number profile.Hosts number = Hosts number

-- a library that is made: of the default profile unless another is given, and with the other number unless one is given
abbrev pub made_profile : GivenProfile → (other : LibraryNumber) → LibraryProfile
made_profile given other = with_number (unwrap_or given.profile profile.Spec) (unwrap_or given.library_number other)

abbrev pub takes_number : Profile → Bool
takes_number profile.Spec = false
takes_number profile.Hosts = true

-- a number is given only where the hosts' profile is given
abbrev pub number_fits : GivenProfile → Option LibraryNumber → Bool
number_fits given None = true
number_fits given (Some number) = takes_number (unwrap_or given.profile profile.Spec)

abbrev pub is_fitting : GivenProfile → Bool
is_fitting given = number_fits given given.library_number
