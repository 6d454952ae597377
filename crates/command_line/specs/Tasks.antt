-- Tasks that can be done as they stand (profile).
use Rattle.std.specs.Prelude.{◌≡◌, ◌≤◌, Option, Some, None, Ok, IfSome, String, vec_len}
use Rattle.std.specs.Global.{Global}
use Rattle.program_options.specs.Options.{AreGivenInRange, AreInRange}
use Rattle.program_options.specs.ServeUntil.{workers_of}
use Rattle.program_options.specs.Strangers.{most_strangers}
use Rattle.program_options.specs.declared.library_options.LibraryOptions.{LibraryOptions}
use Rattle.command_line.specs.declared.task.Task.{Task}
use Rattle.command_line.specs.declared.task.Task.TheVariants.{Replay, Serve, CheckServe, Client, Status, Cells, CheckMedia, Explain}
use Rattle.command_line.specs.declared.task.Asked.{Asked}
use Rattle.command_line.specs.declared.task.Asked.TheVariants as asked
use Rattle.given_options.specs.Ranges.{AreGiven}
use Rattle.command_line.specs.declared.task.ServeOptions.{ServeOptions}
use Rattle.command_line.specs.declared.task.IscsiOptions.{IscsiOptions}
use Rattle.command_line.specs.declared.task.MediaOptions.{MediaOptions}
use Rattle.command_line.specs.declared.task.ClientOptions.{ClientOptions}

-- in range, with a storage element for each volume
pub record MakesLibrary (options : LibraryOptions) : Type 0 where
  pub range : AreInRange options
  pub fits : options.volumes ≤ options.slots

-- the same of a library that is served: of one that is kept the volumes are counted where its folder is opened
pub record MakesServed (options : LibraryOptions) (media : Option MediaOptions) : Type 0 where
  pub range : AreInRange options
  pub fits : media ≡ None → options.volumes ≤ options.slots

-- what was said of it is in range
abbrev pub IsMediaOptions : MediaOptions → Type 0
IsMediaOptions media = AreGivenInRange media.given

-- at 1 to 4 portals, where others than those named have the slots that are left
pub record IsIscsiOptions (iscsi : IscsiOptions) : Type 0 where
  pub some_portals : 1 ≤ vec_len iscsi.portals
  pub few_portals : vec_len iscsi.portals ≤ 4
  pub strangers : most_strangers iscsi.any_host (vec_len iscsi.hosts) (vec_len iscsi.portals) ≡ Ok iscsi.most_strangers

-- at a socket, by iSCSI, or both
abbrev pub IsPlace : Option (String Global) → Option IscsiOptions → Type 0
IsPlace None None = ⊥
IsPlace None (Some iscsi) = IsIscsiOptions iscsi
IsPlace (Some socket) iscsi = IfSome iscsi IsIscsiOptions

-- somewhere, by 1 to 64 workers at each place, and kept in a folder or not
pub record IsServeOptions (serving : ServeOptions) : Type 0 where
  pub place : IsPlace serving.socket serving.iscsi
  pub media : IfSome serving.media IsMediaOptions
  pub some_workers : 1 ≤ workers_of serving.until
  pub few_workers : workers_of serving.until ≤ 64

-- by one of the ports 1 to 4
pub record IsClientOptions (host : ClientOptions) : Type 0 where
  pub first_port : 1 ≤ host.nexus.port
  pub last_port : host.nexus.port ≤ 4

abbrev pub IsDoable : Task → Type 0
IsDoable (Replay library profile explanations audit) = MakesLibrary library
IsDoable (Serve library profile serving audit) = MakesServed library serving.media × IsServeOptions serving
IsDoable (CheckServe library profile serving audit) = MakesServed library serving.media × IsServeOptions serving
IsDoable (Client host explanations) = IsClientOptions host
IsDoable (Status status) = Unit {0}
IsDoable (Cells profile class) = Unit {0}
IsDoable (CheckMedia folder) = Unit {0}
IsDoable (Explain file) = Unit {0}

-- a task that can be done, or options that are each in their range
abbrev pub IsAsked : Asked → Type 0
IsAsked (asked.Task task) = IsDoable task
IsAsked (asked.Serving line) = AreGiven line.given
