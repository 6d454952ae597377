-- Worked rows: addresses of hosts, who is let in, what is said of each fault, how the program ends where its command line names no
-- task, who serves, how long hosts are waited for, what libraries and volumes are made of, what initiators are told of portals, by which
-- digests they answer, how many others than those let in by name, and which profile and number a library has.
use Rattle.std.specs.Prelude.{◌≡◌, ◌++◌, [], Some, None, Ok, Err, true, false, codes, replicate}
use Rattle.clap.specs.declared.error.kind.ErrorKind.TheVariants.{DisplayHelp, DisplayVersion, UnknownArgument, ValueValidation, MissingSubcommand}
use Rattle.program_options.specs.ChapDigests.{digests_in}
use Rattle.program_options.specs.declared.chap_digests.ChapDigests.TheVariants.{Sha256, Sha256AndMd5}
use Rattle.program_options.specs.CommandLineFaults.{refusal_status, command_line_status, command_line_text}
use Rattle.program_options.specs.declared.command_line_fault.CommandLineFault.TheVariants.{NotText, Options, NoMemory}
use Rattle.program_options.specs.declared.option_fault.OptionFault.TheVariants.{MoreVolumes, BadMemorySize, BadVolumeSize, BadNexus, BadHost, BadName, BadSas, NoPlace, NoSlotForOthers, BadDigests, BadFormat, BadProfile, BadLibraryNumber, NumberWithoutHosts}
use Rattle.program_options.specs.Faults.{option_fault_text, option_status}
use Rattle.program_options.specs.Hosts.{nexus_by, sas_in}
use Rattle.program_options.specs.HostsLetIn.{host_in, judged}
use Rattle.program_options.specs.Options.{options_of}
use Rattle.program_options.specs.Portals.{listened_in, told_in}
use Rattle.program_options.specs.Profiles.{profile_in, number_in, number_of_target, made_profile, is_fitting}
use Rattle.program_options.specs.declared.library_profile.LibraryProfile.TheVariants as library
use Rattle.scsi_cdb.specs.declared.profile.Profile.TheVariants.{Spec, Hosts}
use Rattle.program_options.specs.RecordFormats.{format_in}
use Rattle.program_options.specs.declared.record_format.RecordFormat.TheVariants.{Json, Text}
use Rattle.program_options.specs.ServeTimes.{nanos_of, timeout_nanos}
use Rattle.program_options.specs.ServeUntil.{sessions_of, workers_of}
use Rattle.program_options.specs.Sizes.{memory_size_in, volume_size_in}
use Rattle.program_options.specs.Strangers.{most_strangers}
use Rattle.program_options.specs.ToldAddresses.{IsToldAddress, is_named, is_port_behind}
use Rattle.program_options.specs.declared.serve_until.ServeUntil.TheVariants.{Sessions, InputEnds}

pub record AddressesRead : Type 0 where
  pub small_letters : sas_in (codes "500000000000000a") ≡ Some 0x500000000000000A
  pub capital_letters : sas_in (codes "00000000000000AF") ≡ Some 175
  pub too_few_digits : sas_in (codes "50000000000000a") ≡ None
  pub too_many_digits : sas_in (codes "5000000000000000a") ≡ None
  pub no_digit : sas_in (codes "500000000000000g") ≡ None
  pub prefix : sas_in (codes "0x0000000000000a") ≡ None
  pub nexus : nexus_by (Some 10) 4 ≡ Ok (record { sas = 10; port = 4 })
  pub no_nexus : nexus_by None 4 ≡ Err BadNexus

pub record FaultsTold : Type 0 where
  pub more_volumes : option_fault_text MoreVolumes ≡ codes "vtl: more volumes than slots"
  pub bad_nexus : option_fault_text BadNexus ≡ codes "vtl: bad nexus"
  pub bad_profile : option_fault_text BadProfile ≡ codes "vtl: not a profile: give spec or hosts"
  pub bad_library_number : option_fault_text BadLibraryNumber ≡ codes "vtl: not the number of a library: give its 8 hexadecimal digits, such as 1A2B3C4D"
  pub number_without_hosts : option_fault_text NumberWithoutHosts ≡ codes "vtl: --library-id needs --profile hosts: no other library has a number"
  pub status_of_volumes : option_status MoreVolumes ≡ 2
  pub status_of_nexus : option_status BadNexus ≡ 2

pub record StatusesOfRefusals : Type 0 where
  pub help : refusal_status DisplayHelp ≡ 0
  pub version : refusal_status DisplayVersion ≡ 0
  pub unknown_argument : refusal_status UnknownArgument ≡ 2
  pub out_of_range : refusal_status ValueValidation ≡ 2
  pub no_subcommand : refusal_status MissingSubcommand ≡ 2
  pub not_text : command_line_status NotText ≡ 2
  pub more_volumes : command_line_status (Options MoreVolumes) ≡ 2
  pub no_memory : command_line_status NoMemory ≡ 3

pub record LinesOfRefusals : Type 0 where
  pub not_text : command_line_text NotText ≡ Some (codes "vtl: arguments that are not text")
  pub more_volumes : command_line_text (Options MoreVolumes) ≡ Some (codes "vtl: more volumes than slots")
  pub bad_nexus : command_line_text (Options BadNexus) ≡ Some (codes "vtl: bad nexus")
  pub nowhere : command_line_text (Options NoPlace) ≡ Some (codes "vtl: nowhere to serve: give --socket <PATH> or --iscsi <ADDRESS:PORT>")
  pub no_memory : command_line_text NoMemory ≡ Some (codes "vtl: want of memory")

pub record SessionsServed : Type 0 where
  pub workers_of_sessions : workers_of (Sessions 3) ≡ 3
  pub sessions : sessions_of (Sessions 3) ≡ 3
  pub workers : workers_of (InputEnds 5) ≡ 5
  pub sessions_without_end : sessions_of (InputEnds 5) ≡ 0xFFFFFFFFFFFFFFFF

pub record TimesWaited : Type 0 where
  pub no_grace : nanos_of 0 ≡ 0
  pub grace : nanos_of 10 ≡ 10_000_000_000
  pub never : timeout_nanos 0 ≡ None
  pub ten_seconds : timeout_nanos 10 ≡ Some 10_000_000_000
  pub half_a_minute : timeout_nanos 30 ≡ Some 30_000_000_000

pub record HostsLetIn : Type 0 where
  pub host : judged [] (host_in (codes "iqn.2026-11.a:b=500000000000000a")) ≡ Ok (record { name = codes "iqn.2026-11.a:b"; sas = 0x500000000000000A })
  pub no_sign : judged [] (host_in (codes "iqn.2026-11.a:b")) ≡ Err BadHost
  pub short_address : judged [] (host_in (codes "iqn.2026-11.a:b=500000000000000")) ≡ Err BadSas
  pub two_signs : judged [] (host_in (codes "iqn.2026-11.a:b=5=500000000000000a")) ≡ Err BadSas
  pub no_name : judged [] (host_in (codes "=500000000000000a")) ≡ Err BadName

pub record LibrariesMade : Type 0 where
  pub usual : options_of (record { drives = None; slots = None; import_exports = None; volumes = None }) 16777216
      ≡ record { drives = 1; slots = 8; import_exports = 0; volumes = 1; volume_size = 16777216 }
  pub partly_said : options_of (record { drives = Some 2; slots = None; import_exports = None; volumes = Some 0 }) 1048576
      ≡ record { drives = 2; slots = 8; import_exports = 0; volumes = 0; volume_size = 1048576 }

pub record SizesRead : Type 0 where
  pub least : volume_size_in (codes "1M") ≡ Ok 1048576
  pub usual : volume_size_in (codes "16M") ≡ Ok 16777216
  pub most : volume_size_in (codes "64G") ≡ Ok 68719476736
  pub bytes : volume_size_in (codes "1048576") ≡ Ok 1048576
  pub no_whole_unit : volume_size_in (codes "1048577") ≡ Ok 1048577
  pub kibibytes : volume_size_in (codes "1024K") ≡ Ok 1048576
  pub small_letter : volume_size_in (codes "2g") ≡ Ok 2147483648
  pub a_gibibyte : volume_size_in (codes "1G") ≡ Ok 1073741824
  pub most_by_a_small_letter : volume_size_in (codes "64g") ≡ Ok 68719476736
  pub zero : volume_size_in (codes "0") ≡ Err BadVolumeSize
  pub too_small : volume_size_in (codes "1023K") ≡ Err BadVolumeSize
  pub a_byte_too_small : volume_size_in (codes "1048575") ≡ Err BadVolumeSize
  pub too_large : volume_size_in (codes "65G") ≡ Err BadVolumeSize
  pub a_byte_too_large : volume_size_in (codes "68719476737") ≡ Err BadVolumeSize
  pub product_of_65_bits : volume_size_in (codes "18014398509498368K") ≡ Err BadVolumeSize
  pub number_of_65_bits : volume_size_in (codes "18446744073726328832") ≡ Err BadVolumeSize
  pub nothing : volume_size_in [] ≡ Err BadVolumeSize
  pub unit_alone : volume_size_in (codes "M") ≡ Err BadVolumeSize
  pub two_units : volume_size_in (codes "1MM") ≡ Err BadVolumeSize
  pub other_unit : volume_size_in (codes "1T") ≡ Err BadVolumeSize
  pub leading_zero : volume_size_in (codes "016M") ≡ Err BadVolumeSize
  pub sign : volume_size_in (codes "+16M") ≡ Err BadVolumeSize
  pub fraction : volume_size_in (codes "1.5M") ≡ Err BadVolumeSize
  pub blank : volume_size_in (codes "16 M") ≡ Err BadVolumeSize
  pub least_memory : memory_size_in (codes "1024K") ≡ Ok 1048576
  pub least_memory_in_mebibytes : memory_size_in (codes "1M") ≡ Ok 1048576
  pub memory_of_three_gibibytes : memory_size_in (codes "3g") ≡ Ok 3221225472
  pub most_memory : memory_size_in (codes "65536g") ≡ Ok 70368744177664
  pub most_memory_in_bytes : memory_size_in (codes "70368744177664") ≡ Ok 70368744177664
  pub little_memory : memory_size_in (codes "1048575") ≡ Err BadMemorySize
  pub much_memory : memory_size_in (codes "65537G") ≡ Err BadMemorySize
  pub no_memory : memory_size_in (codes "4GB") ≡ Err BadMemorySize

pub record PortalsTold : Type 0 where
  pub listened : listened_in (codes "127.0.0.1:3260=tapes.example:3260") ≡ codes "127.0.0.1:3260"
  pub told : told_in (codes "127.0.0.1:3260=tapes.example:3260") ≡ Some (codes "tapes.example:3260")
  pub listened_alone : listened_in (codes "[::1]:3260") ≡ codes "[::1]:3260"
  pub nothing_told : told_in (codes "[::1]:3260") ≡ None
  pub told_nothing : told_in (codes "127.0.0.1:3260=") ≡ Some []
  pub two_signs : told_in (codes "127.0.0.1:3260=a:1=b:2") ≡ Some (codes "a:1=b:2")
  pub name : is_named (codes "Tapes-1.example:3260") ≡ true
  pub ipv4 : is_named (codes "192.0.2.1:3260") ≡ true
  pub ipv6 : IsToldAddress (codes "[::1]:3260")
  pub one_letter : is_named (codes "a:1") ≡ true
  pub last_port : is_named (codes "a:65535") ≡ true
  pub longest_name : is_named (replicate 253 97 ++ codes ":1") ≡ true
  pub too_long_name : is_named (replicate 254 97 ++ codes ":1") ≡ false
  pub no_port : is_named (codes "tapes.example") ≡ false
  pub empty_port : is_named (codes "tapes.example:") ≡ false
  pub port_zero : is_named (codes "a:0") ≡ false
  pub port_of_17_bits : is_named (codes "a:65536") ≡ false
  pub leading_zero : is_named (codes "a:03260") ≡ false
  pub signed_port : is_named (codes "a:+3260") ≡ false
  pub no_host : is_named (codes ":3260") ≡ false
  pub first_hyphen : is_named (codes "-a:3260") ≡ false
  pub last_dot : is_named (codes "a.:3260") ≡ false
  pub underscore : is_named (codes "a_b:3260") ≡ false
  pub comma : is_named (codes "a:3260,1") ≡ false
  pub bare_ipv6 : is_named (codes "::1:3260") ≡ false
  pub port_behind : is_port_behind (codes ":3260") ≡ true
  pub no_port_behind : is_port_behind [] ≡ false
  pub no_colon_behind : is_port_behind (codes "3260") ≡ false

pub record DigestsRead : Type 0 where
  pub sha256 : digests_in (codes "sha256") ≡ Ok Sha256
  pub both : digests_in (codes "sha256,md5") ≡ Ok Sha256AndMd5
  pub other_order : digests_in (codes "md5,sha256") ≡ Ok Sha256AndMd5
  pub md5_alone : digests_in (codes "md5") ≡ Err BadDigests
  pub twice : digests_in (codes "sha256,sha256") ≡ Err BadDigests
  pub capital_letters : digests_in (codes "SHA256") ≡ Err BadDigests
  pub blank : digests_in (codes "sha256, md5") ≡ Err BadDigests
  pub nothing : digests_in [] ≡ Err BadDigests

pub record StrangersLetIn : Type 0 where
  pub nobody_named : most_strangers true 0 1 ≡ Ok 128
  pub four_portals : most_strangers true 0 4 ≡ Ok 128
  pub two_left : most_strangers true 63 2 ≡ Ok 2
  pub one_portal : most_strangers true 64 1 ≡ Ok 64
  pub none_left : most_strangers true 64 2 ≡ Err NoSlotForOthers
  pub fewer_than_named : most_strangers true 64 4 ≡ Err NoSlotForOthers
  pub named_alone : most_strangers false 64 4 ≡ Ok 0

pub record ProfilesChosen : Type 0 where
  pub default_profile : profile_in (codes "spec") ≡ Ok Spec
  pub hosts_profile : profile_in (codes "hosts") ≡ Ok Hosts
  pub capital_letters : profile_in (codes "Hosts") ≡ Err BadProfile
  pub nothing : profile_in [] ≡ Err BadProfile
  pub number : number_in (codes "1A2B3C4D") ≡ Ok (record { number = 0x1A2B3C4D })
  pub small_letters : number_in (codes "1a2b3c4d") ≡ Ok (record { number = 0x1A2B3C4D })
  pub short_number : number_in (codes "1A2B3C4") ≡ Err BadLibraryNumber
  pub long_number : number_in (codes "1A2B3C4D5") ≡ Err BadLibraryNumber
  pub no_digit : number_in (codes "1A2B3C4G") ≡ Err BadLibraryNumber
  pub usual : made_profile (record { profile = None; library_number = None }) (record { number = 7 }) ≡ library.Spec
  pub hosts : made_profile (record { profile = Some Hosts; library_number = None }) (record { number = 7 }) ≡ library.Hosts (record { number = 7 })
  pub numbered : made_profile (record { profile = Some Hosts; library_number = Some (record { number = 9 }) }) (record { number = 7 })
      ≡ library.Hosts (record { number = 9 })
  pub number_for_hosts : is_fitting (record { profile = Some Hosts; library_number = Some (record { number = 9 }) }) ≡ true
  pub number_alone : is_fitting (record { profile = None; library_number = Some (record { number = 9 }) }) ≡ false
  pub number_for_default : is_fitting (record { profile = Some Spec; library_number = Some (record { number = 9 }) }) ≡ false
  pub no_number : is_fitting (record { profile = Some Spec; library_number = None }) ≡ true

-- by the SHA-256 of the names
pub record TargetsNumbered : Type 0 where
  pub usual : number_of_target (codes "iqn.2026-11.localhost:vtl") ≡ record { number = 0xC32FF006 }
  pub other : number_of_target (codes "iqn.2026-11.example:tapes") ≡ record { number = 0x99E02835 }

pub record FormatsRead : Type 0 where
  pub json : format_in (codes "json") ≡ Ok Json
  pub text : format_in (codes "text") ≡ Ok Text
  pub capital_letters : format_in (codes "JSON") ≡ Err BadFormat
  pub other : format_in (codes "csv") ≡ Err BadFormat
  pub nothing : format_in [] ≡ Err BadFormat
