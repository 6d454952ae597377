-- What wins: an option that the first source gives is the one that is used, and else that of the second (profile).
use Rattle.std.specs.Option.{option_or}
use Rattle.program_options.specs.declared.given_library.GivenLibrary.{GivenLibrary}
use Rattle.program_options.specs.declared.given_profile.GivenProfile.{GivenProfile}
use Rattle.given_options.specs.declared.options.GivenOptions.{GivenOptions}
use Rattle.given_options.specs.declared.options.GivenMedia.{GivenMedia}
use Rattle.given_options.specs.declared.options.GivenPlace.{GivenPlace}
use Rattle.given_options.specs.declared.options.GivenMetrics.{GivenMetrics}
use Rattle.given_options.specs.declared.options.GivenIscsi.{GivenIscsi}
use Rattle.given_options.specs.declared.options.GivenRecords.{GivenRecords}
use Rattle.given_options.specs.declared.options.GivenRecordFile.{GivenRecordFile}
use Rattle.given_options.specs.declared.options.GivenTimes.{GivenTimes}

abbrev pub winning_library : (first second : GivenLibrary) → GivenLibrary
winning_library first second = record {
  drives = option_or first.drives second.drives;
  slots = option_or first.slots second.slots;
  import_exports = option_or first.import_exports second.import_exports;
  volumes = option_or first.volumes second.volumes;
}

-- a profile and a number are each those of one source
abbrev pub winning_profile : (first second : GivenProfile) → GivenProfile
winning_profile first second = record {
  profile = option_or first.profile second.profile;
  library_number = option_or first.library_number second.library_number;
}

abbrev pub winning_media : (first second : GivenMedia) → GivenMedia
winning_media first second = record {
  folder = option_or first.folder second.folder;
  new_library = option_or first.new_library second.new_library;
  wait = option_or first.wait second.wait;
  memory = option_or first.memory second.memory;
  volumes_larger_than_memory = option_or first.volumes_larger_than_memory second.volumes_larger_than_memory;
}

abbrev pub winning_place : (first second : GivenPlace) → GivenPlace
winning_place first second = record {
  socket = option_or first.socket second.socket;
  control = option_or first.control second.control;
  sessions = option_or first.sessions second.sessions;
  workers = option_or first.workers second.workers;
}

abbrev pub winning_metrics : (first second : GivenMetrics) → GivenMetrics
winning_metrics first second = record {
  address = option_or first.address second.address;
  is_open = option_or first.is_open second.is_open;
}

-- portals and hosts are those of one source, and not of both
abbrev pub winning_iscsi : (first second : GivenIscsi) → GivenIscsi
winning_iscsi first second = record {
  portals = option_or first.portals second.portals;
  target_name = option_or first.target_name second.target_name;
  hosts = option_or first.hosts second.hosts;
  any_host = option_or first.any_host second.any_host;
  multipath = option_or first.multipath second.multipath;
  chap = option_or first.chap second.chap;
  chap_digests = option_or first.chap_digests second.chap_digests;
  no_authentication = option_or first.no_authentication second.no_authentication;
}

abbrev pub winning_records : (first second : GivenRecords) → GivenRecords
winning_records first second = record {
  spans = option_or first.spans second.spans;
  drain = option_or first.drain second.drain;
  keep_records = option_or first.keep_records second.keep_records;
}

abbrev pub winning_record_file : (first second : GivenRecordFile) → GivenRecordFile
winning_record_file first second = record {
  path = option_or first.path second.path;
  format = option_or first.format second.format;
}

abbrev pub winning_times : (first second : GivenTimes) → GivenTimes
winning_times first second = record {
  grace = option_or first.grace second.grace;
  login = option_or first.login second.login;
  idle = option_or first.idle second.idle;
  write = option_or first.write second.write;
  ping = option_or first.ping second.ping;
}

abbrev pub winning_options : (first second : GivenOptions) → GivenOptions
winning_options first second = record {
  library = winning_library first.library second.library;
  volume_size = option_or first.volume_size second.volume_size;
  profile = winning_profile first.profile second.profile;
  media = winning_media first.media second.media;
  place = winning_place first.place second.place;
  metrics = winning_metrics first.metrics second.metrics;
  iscsi = winning_iscsi first.iscsi second.iscsi;
  records = winning_records first.records second.records;
  record_file = winning_record_file first.record_file second.record_file;
  times = winning_times first.times second.times;
  log = option_or first.log second.log;
}
