-- The registrations of a unit (SPC-4, "Registering").
use Rattle.std.specs.Prelude.{ℕ, List, unwrap_or}
use Rattle.std.specs.FinMap.{find}
use Rattle.scsi_nexus.specs.declared.nexus.Nexus.{Nexus}
use Rattle.scsi_nexus.specs.Order.{nexus_cmp}

-- the registered nexuses, each with its key, ascending
abbrev pub Pairs : Type 0
Pairs = List (Nexus × ℕ)

-- the key of a nexus, 0 for none
abbrev pub key_in : Pairs → Nexus → ℕ
key_in pairs n = unwrap_or (find nexus_cmp n pairs) 0
