-- The names of hosts in lines (profile).
use Rattle.std.specs.Prelude.{ℕ, ◌==◌, List, [], ◌∷◌, Option, Some, None, string_bytes, if◌then◌else◌}
use Rattle.scsi_nexus.specs.declared.nexus.Nexus.{Nexus}
use Rattle.record_lines.specs.declared.host_name.HostName.{HostName}

-- the first name of a SAS address
abbrev pub name_by : List HostName → (sas : ℕ) → Option (List ℕ)
name_by [] sas = None
name_by (host ∷ hosts) sas = if host.sas == sas then Some (string_bytes host.name) else name_by hosts sas

-- the name of the nexus that asked, where it is known
abbrev pub name_in : List HostName → Option Nexus → Option (List ℕ)
name_in names None = None
name_in names (Some nexus) = name_by names nexus.sas
