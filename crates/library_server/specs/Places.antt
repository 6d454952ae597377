-- How many places a library is served at.
use Rattle.std.specs.Prelude.{ℕ, Option, Some, None, String, vec_len}
use Rattle.std.specs.Global.{Global}
use Rattle.command_line.specs.declared.task.IscsiOptions.{IscsiOptions}

-- a socket is one
abbrev pub count_of : Option (String Global) → ℕ
count_of None = 0
count_of (Some path) = 1

-- and each portal
abbrev pub portals_of : Option IscsiOptions → ℕ
portals_of None = 0
portals_of (Some iscsi) = vec_len iscsi.portals
