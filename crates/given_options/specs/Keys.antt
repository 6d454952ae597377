-- The names of options of `vtl serve`: on the command line, and as keys of a file of configuration (profile).
use Rattle.std.specs.Prelude.{ℕ, List, codes}
use Rattle.given_options.specs.declared.key.ServeKey.{ServeKey}
use Rattle.given_options.specs.declared.key.ServeKey.TheVariants.{Drives, Slots, Portals, Volumes, VolumeSize, Profile, LibraryId, Media, NewLibrary, WaitForFolder, Memory, VolumesLargerThanMemory, Socket, Control, Metrics, MetricsOpen, Sessions, Workers, Iscsi, TargetName, Hosts, AnyHost, Multipath, Chap, ChapDigests, NoAuthentication, Spans, Drain, KeepRecords, Records, Format, Grace, LoginTimeout, IdleTimeout, WriteTimeout, IdlePing, Log}

-- a key of a file
abbrev pub key_text : ServeKey → List ℕ
key_text Drives = codes "drives"
key_text Slots = codes "slots"
key_text Portals = codes "portals"
key_text Volumes = codes "volumes"
key_text VolumeSize = codes "volume-size"
key_text Profile = codes "profile"
key_text LibraryId = codes "library-id"
key_text Media = codes "media"
key_text NewLibrary = codes "new-library"
key_text WaitForFolder = codes "wait-for-folder"
key_text Memory = codes "memory"
key_text VolumesLargerThanMemory = codes "volumes-larger-than-memory"
key_text Socket = codes "socket"
key_text Control = codes "control"
key_text Metrics = codes "metrics"
key_text MetricsOpen = codes "metrics-open"
key_text Sessions = codes "sessions"
key_text Workers = codes "workers"
key_text Iscsi = codes "iscsi"
key_text TargetName = codes "target-name"
key_text Hosts = codes "hosts"
key_text AnyHost = codes "any-host"
key_text Multipath = codes "multipath"
key_text Chap = codes "chap"
key_text ChapDigests = codes "chap-digests"
key_text NoAuthentication = codes "no-authentication"
key_text Spans = codes "spans"
key_text Drain = codes "drain"
key_text KeepRecords = codes "keep-records"
key_text Records = codes "records"
key_text Format = codes "format"
key_text Grace = codes "grace"
key_text LoginTimeout = codes "login-timeout"
key_text IdleTimeout = codes "idle-timeout"
key_text WriteTimeout = codes "write-timeout"
key_text IdlePing = codes "idle-ping"
key_text Log = codes "log"

-- the option that it stands for: hosts are a table in a file, and each is an option on the command line
abbrev pub option_text : ServeKey → List ℕ
option_text Hosts = codes "host"
option_text key = key_text key
