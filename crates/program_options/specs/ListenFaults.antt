-- The exit status of a program that nobody can reach, and what is told of it (profile).
use Rattle.std.specs.Prelude.{ℕ, List, ◌++◌, codes, string_bytes}
use Rattle.program_options.specs.declared.listen_fault.ListenFault.{ListenFault}
use Rattle.program_options.specs.declared.listen_fault.ListenFault.TheVariants.{IsThere, CannotListen, IsTaken}

abbrev pub listen_status : ListenFault → ℕ
listen_status (IsThere path) = 4
listen_status (CannotListen path) = 4
listen_status (IsTaken address) = 4

-- the second line names the path or the address
abbrev pub listen_text : ListenFault → List ℕ
listen_text (IsThere path) = codes "vtl: device fault\nvtl: cannot listen on " ++ string_bytes path ++ codes ": it is there already"
listen_text (CannotListen path) = codes "vtl: device fault\nvtl: cannot listen on " ++ string_bytes path
listen_text (IsTaken address) = codes "vtl: device fault\nvtl: cannot listen on " ++ string_bytes address ++ codes ": another program listens there already"
