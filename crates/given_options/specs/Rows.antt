-- Worked rows: names of options, which of two sources wins, and which options go together.
use Rattle.std.specs.Prelude.{◌≡◌, Some, None, Ok, Err, true, false, codes}
use Rattle.given_options.specs.Keys.{key_text, option_text}
use Rattle.given_options.specs.Given.{is_given}
use Rattle.given_options.specs.Rules.{judged_options, rule_text}
use Rattle.given_options.specs.Winning.{winning_library, winning_options, winning_profile, winning_records, winning_times}
use Rattle.scsi_cdb.specs.declared.profile.Profile.TheVariants as scsi
use Rattle.given_options.specs.declared.key.ServeKey.TheVariants.{Drain, Format, Hosts, Iscsi, LibraryId, Media, Metrics, MetricsOpen, NoAuthentication, Records, Sessions, Spans, VolumeSize, WaitForFolder, Workers}
use Rattle.program_options.specs.declared.record_format.RecordFormat.TheVariants.{Text}
use Rattle.given_options.specs.declared.options.GivenOptions.{GivenOptions}
use Rattle.given_options.specs.declared.rule.OptionRule.TheVariants.{Excludes, Needs}

pub record KeysNamed : Type 0 where
  pub hosts : key_text Hosts ≡ codes "hosts"
  pub host : option_text Hosts ≡ codes "host"
  pub size : key_text VolumeSize ≡ codes "volume-size"
  pub size_option : option_text VolumeSize ≡ codes "volume-size"
  pub wait : option_text WaitForFolder ≡ codes "wait-for-folder"
  pub number : option_text LibraryId ≡ codes "library-id"
  pub drain_or_spans : rule_text (Excludes Drain Spans) ≡ codes "vtl: --drain cannot be used with --spans"
  pub host_without_portal : rule_text (Needs Hosts Iscsi) ≡ codes "vtl: --host needs --iscsi"

pub record OptionsThatWin : Type 0 where
  pub drives : winning_library (record { drives = Some 2; slots = None; import_exports = None; volumes = Some 0 })
      (record { drives = Some 4; slots = Some 16; import_exports = None; volumes = Some 10 })
      ≡ record { drives = Some 2; slots = Some 16; import_exports = None; volumes = Some 0 }
  pub number : winning_profile (record { profile = Some scsi.Hosts; library_number = None })
      (record { profile = Some scsi.Spec; library_number = Some (record { number = 9 }) })
      ≡ record { profile = Some scsi.Hosts; library_number = Some (record { number = 9 }) }
  pub off : winning_records (record { spans = None; drain = Some true; keep_records = None })
      (record { spans = Some true; drain = Some false; keep_records = None })
      ≡ record { spans = Some true; drain = Some true; keep_records = None }
  pub never : winning_times (record { grace = None; login = Some 0; idle = None; write = None; ping = None })
      (record { grace = Some 3; login = Some 10; idle = None; write = None; ping = Some 30 })
      ≡ record { grace = Some 3; login = Some 0; idle = None; write = None; ping = Some 30 }

-- what says nothing, and the same with records that are printed while it serves, a number of sessions, or how many workers there are
abbrev pub nothing : GivenOptions
nothing = record {
  library = record { drives = None; slots = None; import_exports = None; volumes = None };
  volume_size = None;
  profile = record { profile = None; library_number = None };
  media = record { folder = None; new_library = None; wait = None; memory = None; volumes_larger_than_memory = None };
  place = record { socket = None; control = None; sessions = None; workers = None };
  metrics = record { address = None; is_open = None };
  iscsi = record { portals = None; target_name = None; hosts = None; any_host = None; multipath = None; chap = None; chap_digests = None; no_authentication = None };
  records = record { spans = None; drain = None; keep_records = None };
  record_file = record { path = None; format = None };
  times = record { grace = None; login = None; idle = None; write = None; ping = None };
  log = None;
}

abbrev pub drained : GivenOptions
drained = record nothing { records = record { spans = None; drain = Some true; keep_records = None } }

abbrev pub with_spans : GivenOptions
with_spans = record nothing { records = record { spans = Some true; drain = Some false; keep_records = None } }

-- the same with the number of a library alone: whether its library may have one is decided where its profile is known
abbrev pub numbered : GivenOptions
numbered = record nothing { profile = record { profile = None; library_number = Some (record { number = 9 }) } }

abbrev pub for_a_session : GivenOptions
for_a_session = record nothing { place = record { socket = None; control = None; sessions = Some 1; workers = None } }

abbrev pub by_workers : GivenOptions
by_workers = record nothing { place = record { socket = None; control = None; sessions = None; workers = Some 16 } }

abbrev pub without_authentication : GivenOptions
without_authentication = record nothing {
  iscsi = record { portals = None; target_name = None; hosts = None; any_host = None; multipath = None; chap = None; chap_digests = None; no_authentication = Some true };
}

-- a form of records that are written into no file
abbrev pub formed : GivenOptions
formed = record nothing { record_file = record { path = None; format = Some Text } }

-- a wait for a folder that isn't given
abbrev pub waiting : GivenOptions
waiting = record nothing { media = record { folder = None; new_library = None; wait = Some 30; memory = None; volumes_larger_than_memory = None } }

-- readers of metrics that are given nowhere
abbrev pub opened : GivenOptions
opened = record nothing { metrics = record { address = None; is_open = Some true } }

pub record OptionsThatGoTogether : Type 0 where
  pub none : judged_options nothing ≡ Ok tt
  pub number_alone : judged_options numbered ≡ Ok tt
  pub switched_off : judged_options with_spans ≡ Ok tt
  pub off_is_not_given : is_given Drain with_spans ≡ false
  pub one_of_each_source : judged_options (winning_options drained with_spans) ≡ Err (Excludes Drain Spans)
  pub term_of_each_source : judged_options (winning_options for_a_session by_workers) ≡ Err (Excludes Workers Sessions)
  pub form_of_no_file : judged_options formed ≡ Err (Needs Format Records)
  pub without_folder : judged_options waiting ≡ Err (Needs WaitForFolder Media)
  pub without_metrics : judged_options opened ≡ Err (Needs MetricsOpen Metrics)
  pub without_portals : judged_options without_authentication ≡ Err (Needs NoAuthentication Iscsi)
