-- Which options a file gives, by the members of its table: each key sets the option of its name (profile).
use Rattle.std.specs.Prelude.{ℕ, ◌≡◌, ◌&&◌, Bool, true, List, Option, Some, option_map, string_bytes}
use Rattle.std.specs.List.{list_any}
use Rattle.std.specs.Str.{bytes_eq}
use Rattle.program_options.specs.ChapDigests.{digests_in}
use Rattle.program_options.specs.Profiles.{number_in, profile_in}
use Rattle.program_options.specs.RecordFormats.{format_in}
use Rattle.program_options.specs.Sizes.{memory_size_in, volume_size_in}
use Rattle.program_options.specs.declared.given_library.GivenLibrary.{GivenLibrary}
use Rattle.program_options.specs.declared.given_profile.GivenProfile.{GivenProfile}
use Rattle.toml.specs.Data.{Data, Members, no_members, member, get_member}
use Rattle.given_options.specs.Keys.{key_text}
use Rattle.given_options.specs.declared.key.ServeKey.{ServeKey}
use Rattle.given_options.specs.declared.key.ServeKey.TheVariants.{Drives, Slots, Portals, Volumes, VolumeSize, Profile, LibraryId, Media, NewLibrary, WaitForFolder, Memory, VolumesLargerThanMemory, Socket, Control, Metrics, MetricsOpen, Sessions, Workers, TargetName, AnyHost, Multipath, Chap, ChapDigests, NoAuthentication, Spans, Drain, KeepRecords, Records, Format, Grace, LoginTimeout, IdleTimeout, WriteTimeout, IdlePing, Log}
use Rattle.given_options.specs.declared.options.GivenIscsi.{GivenIscsi}
use Rattle.given_options.specs.declared.options.GivenMedia.{GivenMedia}
use Rattle.given_options.specs.declared.options.GivenMetrics.{GivenMetrics}
use Rattle.given_options.specs.declared.options.GivenOptions.{GivenOptions}
use Rattle.given_options.specs.declared.options.GivenPlace.{GivenPlace}
use Rattle.given_options.specs.declared.options.GivenRecords.{GivenRecords}
use Rattle.given_options.specs.declared.options.GivenRecordFile.{GivenRecordFile}
use Rattle.given_options.specs.declared.options.GivenTimes.{GivenTimes}
use Rattle.configuration_file.specs.Values.{IsAddressSaid, name_said, number_said, switch_said, text_said, word_said}

-- the key is one of these
abbrev pub is_key : (keys : List ServeKey) → (name : List ℕ) → Bool
is_key keys name = list_any (λ key. bytes_eq (key_text key) name) keys

-- each key is one of these
abbrev pub are_keys : (keys : List ServeKey) → Members → Bool
are_keys keys no_members = true
are_keys keys (member name value rest) = is_key keys name && are_keys keys rest

-- what is at the key of an option
abbrev pub at : ServeKey → Members → Option Data
at key members = get_member (key_text key) members

pub record SaysLibrary (members : Members) (given : GivenLibrary) : Type 0 where
  pub drives : number_said 1 4 (at Drives members) ≡ Some given.drives
  pub slots : number_said 1 1024 (at Slots members) ≡ Some given.slots
  pub portals : number_said 0 16 (at Portals members) ≡ Some given.import_exports
  pub volumes : number_said 0 1024 (at Volumes members) ≡ Some given.volumes

pub record SaysProfile (members : Members) (given : GivenProfile) : Type 0 where
  pub profile : word_said profile_in (at Profile members) ≡ Some given.profile
  pub number : word_said number_in (at LibraryId members) ≡ Some given.library_number

pub record SaysMedia (members : Members) (given : GivenMedia) : Type 0 where
  pub folder : text_said (at Media members) ≡ Some (option_map string_bytes given.folder)
  pub new_library : switch_said (at NewLibrary members) ≡ Some given.new_library
  pub wait : number_said 0 3600 (at WaitForFolder members) ≡ Some given.wait
  pub memory : word_said memory_size_in (at Memory members) ≡ Some given.memory
  pub larger : switch_said (at VolumesLargerThanMemory members) ≡ Some given.volumes_larger_than_memory

pub record SaysPlace (members : Members) (given : GivenPlace) : Type 0 where
  pub socket : text_said (at Socket members) ≡ Some (option_map string_bytes given.socket)
  pub control : text_said (at Control members) ≡ Some (option_map string_bytes given.control)
  pub sessions : number_said 1 64 (at Sessions members) ≡ Some given.sessions
  pub workers : number_said 1 64 (at Workers members) ≡ Some given.workers

pub record SaysMetrics (members : Members) (given : GivenMetrics) : Type 0 where
  pub address : IsAddressSaid (at Metrics members) given.address
  pub is_open : switch_said (at MetricsOpen members) ≡ Some given.is_open

-- the portals and the hosts are read as on the command line, each by its word
pub record SaysIscsi (members : Members) (given : GivenIscsi) : Type 0 where
  pub target_name : name_said (at TargetName members) ≡ Some (option_map string_bytes given.target_name)
  pub any_host : switch_said (at AnyHost members) ≡ Some given.any_host
  pub multipath : switch_said (at Multipath members) ≡ Some given.multipath
  pub chap : text_said (at Chap members) ≡ Some (option_map string_bytes given.chap)
  pub chap_digests : word_said digests_in (at ChapDigests members) ≡ Some given.chap_digests
  pub no_authentication : switch_said (at NoAuthentication members) ≡ Some given.no_authentication

pub record SaysRecords (members : Members) (given : GivenRecords) : Type 0 where
  pub spans : switch_said (at Spans members) ≡ Some given.spans
  pub drain : switch_said (at Drain members) ≡ Some given.drain
  pub keep_records : switch_said (at KeepRecords members) ≡ Some given.keep_records

pub record SaysRecordFile (members : Members) (given : GivenRecordFile) : Type 0 where
  pub path : text_said (at Records members) ≡ Some (option_map string_bytes given.path)
  pub format : word_said format_in (at Format members) ≡ Some given.format

pub record SaysTimes (members : Members) (given : GivenTimes) : Type 0 where
  pub grace : number_said 0 3600 (at Grace members) ≡ Some given.grace
  pub login : number_said 0 86400 (at LoginTimeout members) ≡ Some given.login
  pub idle : number_said 0 86400 (at IdleTimeout members) ≡ Some given.idle
  pub write : number_said 0 86400 (at WriteTimeout members) ≡ Some given.write
  pub ping : number_said 0 86400 (at IdlePing members) ≡ Some given.ping

pub record Says (members : Members) (given : GivenOptions) : Type 0 where
  pub library : SaysLibrary members given.library
  pub volume_size : word_said volume_size_in (at VolumeSize members) ≡ Some given.volume_size
  pub profile : SaysProfile members given.profile
  pub media : SaysMedia members given.media
  pub place : SaysPlace members given.place
  pub metrics : SaysMetrics members given.metrics
  pub iscsi : SaysIscsi members given.iscsi
  pub records : SaysRecords members given.records
  pub record_file : SaysRecordFile members given.record_file
  pub times : SaysTimes members given.times
  pub log : switch_said (at Log members) ≡ Some given.log
