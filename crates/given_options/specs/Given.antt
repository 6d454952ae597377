-- Which options are given. A switch that is off isn't (profile).
use Rattle.std.specs.Prelude.{Bool, is_some}
use Rattle.given_options.specs.Switches.{is_on}
use Rattle.given_options.specs.declared.key.ServeKey.{ServeKey}
use Rattle.given_options.specs.declared.key.ServeKey.TheVariants.{Drives, Slots, Portals, Volumes, VolumeSize, Profile, LibraryId, Media, NewLibrary, WaitForFolder, Memory, VolumesLargerThanMemory, Socket, Control, Metrics, MetricsOpen, Sessions, Workers, Iscsi, TargetName, Hosts, AnyHost, Multipath, Chap, ChapDigests, NoAuthentication, Spans, Drain, KeepRecords, Records, Format, Grace, LoginTimeout, IdleTimeout, WriteTimeout, IdlePing, Log}
use Rattle.given_options.specs.declared.options.GivenOptions.{GivenOptions}

abbrev pub is_given : ServeKey → GivenOptions → Bool
is_given Drives given = is_some given.library.drives
is_given Slots given = is_some given.library.slots
is_given Portals given = is_some given.library.import_exports
is_given Volumes given = is_some given.library.volumes
is_given VolumeSize given = is_some given.volume_size
is_given Profile given = is_some given.profile.profile
is_given LibraryId given = is_some given.profile.library_number
is_given Media given = is_some given.media.folder
is_given NewLibrary given = is_on given.media.new_library
is_given WaitForFolder given = is_some given.media.wait
is_given Memory given = is_some given.media.memory
is_given VolumesLargerThanMemory given = is_on given.media.volumes_larger_than_memory
is_given Socket given = is_some given.place.socket
is_given Control given = is_some given.place.control
is_given Metrics given = is_some given.metrics.address
is_given MetricsOpen given = is_on given.metrics.is_open
is_given Sessions given = is_some given.place.sessions
is_given Workers given = is_some given.place.workers
is_given Iscsi given = is_some given.iscsi.portals
is_given TargetName given = is_some given.iscsi.target_name
is_given Hosts given = is_some given.iscsi.hosts
is_given AnyHost given = is_on given.iscsi.any_host
is_given Multipath given = is_on given.iscsi.multipath
is_given Chap given = is_some given.iscsi.chap
is_given ChapDigests given = is_some given.iscsi.chap_digests
is_given NoAuthentication given = is_on given.iscsi.no_authentication
is_given Spans given = is_on given.records.spans
is_given Drain given = is_on given.records.drain
is_given KeepRecords given = is_on given.records.keep_records
is_given Records given = is_some given.record_file.path
is_given Format given = is_some given.record_file.format
is_given Grace given = is_some given.times.grace
is_given LoginTimeout given = is_some given.times.login
is_given IdleTimeout given = is_some given.times.idle
is_given WriteTimeout given = is_some given.times.write
is_given IdlePing given = is_some given.times.ping
is_given Log given = is_on given.log
