-- How a library is served by what is given, and by the defaults of what isn't (profile).
use Rattle.std.specs.Prelude.{ℕ, ◌≡◌, ◌*◌, ◌≤◌, ◌&&◌, ◌||◌, not, Bool, true, false, IfSome, IsTrue, List, codes, Option, Some, None, is_some, option_map, unwrap_or, String, string_bytes, if◌then◌else◌}
use Rattle.std.specs.Duration.{as_nanos}
use Rattle.std.specs.Global.{Global}
use Rattle.output_lines.specs.declared.audit_lines.Audit.{Audit}
use Rattle.output_lines.specs.declared.audit_lines.Audit.TheVariants.{Lines, Spans}
use Rattle.program_options.specs.Options.{options_of}
use Rattle.program_options.specs.Portals.{IsGuarded}
use Rattle.program_options.specs.Profiles.{is_fitting, made_profile, number_of_target}
use Rattle.program_options.specs.ServeTimes.{nanos_of, timeout_nanos}
use Rattle.program_options.specs.declared.given_library.GivenLibrary.{GivenLibrary}
use Rattle.program_options.specs.declared.given_profile.GivenProfile.{GivenProfile}
use Rattle.program_options.specs.declared.library_options.LibraryOptions.{LibraryOptions}
use Rattle.program_options.specs.declared.library_profile.LibraryProfile.{LibraryProfile}
use Rattle.program_options.specs.declared.record_format.RecordFormat.{RecordFormat}
use Rattle.program_options.specs.declared.record_format.RecordFormat.TheVariants.{Json}
use Rattle.program_options.specs.declared.serve_times.ServeTimes.{ServeTimes}
use Rattle.program_options.specs.declared.serve_until.ServeUntil.{ServeUntil}
use Rattle.program_options.specs.declared.serve_until.ServeUntil.TheVariants.{Sessions, InputEnds}
use Rattle.program_options.specs.declared.without_library.WithoutLibrary.TheVariants.{Make, Refuse}
use Rattle.given_options.specs.Switches.{is_on}
use Rattle.given_options.specs.declared.options.GivenMedia.{GivenMedia}
use Rattle.given_options.specs.declared.options.GivenOptions.{GivenOptions}
use Rattle.given_options.specs.declared.options.GivenPlace.{GivenPlace}
use Rattle.given_options.specs.declared.options.GivenRecords.{GivenRecords}
use Rattle.given_options.specs.declared.options.GivenTimes.{GivenTimes}
use Rattle.command_line.specs.declared.task.MediaOptions.{MediaOptions}
use Rattle.command_line.specs.declared.task.RecordFileOptions.{RecordFileOptions}
use Rattle.command_line.specs.declared.task.ServeAim.{ServeAim}
use Rattle.command_line.specs.declared.task.ServeAim.TheVariants as aim
use Rattle.command_line.specs.declared.task.ServeOptions.{ServeOptions}
use Rattle.command_line.specs.declared.task.Task.{Task}
use Rattle.command_line.specs.declared.task.Task.TheVariants.{Replay, Serve, CheckServe, Client, Status, Cells, CheckMedia}

-- for so many sessions, or until the input ends, by 64 workers at each place
abbrev pub until_by : (sessions workers : Option ℕ) → ServeUntil
until_by None workers = InputEnds (unwrap_or workers 64)
until_by (Some count) workers = Sessions count

abbrev pub until_of : GivenPlace → ServeUntil
until_of place = until_by place.sessions place.workers

abbrev pub audit_of : GivenRecords → Audit
audit_of records = if is_on records.spans then Spans else Lines

-- with portals, unless they are kept
abbrev pub is_drained : GivenRecords → GivenPlace → (has_portals : Bool) → Bool
is_drained records place has_portals =
    is_on records.drain || (has_portals && not ((is_on records.keep_records || is_on records.spans) || is_some place.sessions))

-- in its folder, if it has one, where a library is made if that is asked for; another program is waited for only if that is asked for
abbrev pub media_in : (folder : Option (String Global)) → GivenMedia → GivenLibrary → GivenProfile → Option MediaOptions
media_in None media given profile = None
media_in (Some folder) media given profile =
    Some (record { folder = folder; without = if is_on media.new_library then Make else Refuse; wait = unwrap_or media.wait 0; given = given; profile = profile })

abbrev pub media_of : GivenMedia → GivenLibrary → GivenProfile → Option MediaOptions
media_of media given profile = media_in media.folder media given profile

-- all that the volumes may hold has room in memory: of a library that is kept that isn't asked for, nor where it is said that it needn't have
pub record HasRoom (media : GivenMedia) (library : LibraryOptions) : Type 0 where
  pub fits : media.folder ≡ None → is_on media.volumes_larger_than_memory ≡ false → IfSome media.memory (λ memory. library.volumes * library.volume_size ≤ memory)

-- in JSON, if nothing else is asked for
abbrev pub record_file_of : (path : Option (String Global)) → Option RecordFormat → Option RecordFileOptions
record_file_of None format = None
record_file_of (Some path) format = Some (record { path = path; format = unwrap_or format Json })

-- the name of the target, which is the usual one where none is given
abbrev pub name_of_target : Option (String Global) → List ℕ
name_of_target None = codes "iqn.2026-11.localhost:vtl"
name_of_target (Some name) = string_bytes name

-- with the number that is given, and else with that of the target's name. Of a library that is kept it is decided where its folder is opened
abbrev pub served_profile : GivenProfile → (target : Option (String Global)) → LibraryProfile
served_profile given target = made_profile given (number_of_target (name_of_target target))

-- ten seconds for the end and for a login, half a minute for a reply and before a silent initiator is asked
pub record TimesOf (given : GivenTimes) (times : ServeTimes) : Type 0 where
  pub grace : as_nanos times.grace ≡ nanos_of (unwrap_or given.grace 10)
  pub login : option_map as_nanos times.login ≡ timeout_nanos (unwrap_or given.login 10)
  pub idle : option_map as_nanos times.idle ≡ timeout_nanos (unwrap_or given.idle 0)
  pub write : option_map as_nanos times.write ≡ timeout_nanos (unwrap_or given.write 30)
  pub ping : option_map as_nanos times.ping ≡ timeout_nanos (unwrap_or given.ping 30)

pub record IsServedBy (given : GivenOptions) (serving : ServeOptions) : Type 0 where
  pub socket : serving.socket ≡ given.place.socket
  pub control : serving.control ≡ given.place.control
  pub metrics : serving.metrics ≡ given.metrics.address
  pub readers : IfSome serving.metrics (IsGuarded (is_on given.metrics.is_open))
  pub counted : IfSome serving.metrics (λ _. IsTrue (serving.drain || is_some serving.record_file))
  pub media : serving.media ≡ media_of given.media given.library given.profile
  pub memory : serving.memory ≡ given.media.memory
  pub until : serving.until ≡ until_of given.place
  pub drain : serving.drain ≡ is_drained given.records given.place (is_some given.iscsi.portals)
  pub record_file : serving.record_file ≡ record_file_of given.record_file.path given.record_file.format
  pub times : TimesOf given.times serving.times
  pub log : serving.log ≡ is_on given.log

-- 16 MiB of blocks are usual, and a library that isn't kept has a number only if it is of the hosts' profile
pub record IsServed (given : GivenOptions) (made : LibraryOptions) (chosen : LibraryProfile) (served : ServeOptions) (printed : Audit) : Type 0 where
  pub library : made ≡ options_of given.library (unwrap_or given.volume_size 16777216)
  pub profile : chosen ≡ served_profile given.profile given.iscsi.target_name
  pub room : HasRoom given.media made
  pub number : given.media.folder ≡ None → is_fitting given.profile ≡ true
  pub serving : IsServedBy given served
  pub audit : printed ≡ audit_of given.records

-- a library is served, or it is only looked at, as it is asked for
abbrev pub IsTaskOf : ServeAim → GivenOptions → Task → Type 0
IsTaskOf aim.Serve given (Serve library profile serving audit) = IsServed given library profile serving audit
IsTaskOf aim.Check given (CheckServe library profile serving audit) = IsServed given library profile serving audit
IsTaskOf aim given task = ⊥
