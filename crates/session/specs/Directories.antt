-- The nexuses that have a session, by their keys.
use Rattle.std.specs.Prelude.{◌≡◌, ℕ, List, Option, Some, None, slice_index_or}
use Rattle.scsi_nexus.specs.declared.nexus.Nexus.{Nexus}

-- the nexus of a key, if it has one
abbrev pub nexus_at : List (Option Nexus) → (key : ℕ) → Option Nexus
nexus_at directory key = slice_index_or directory key None

-- a nexus has a key
abbrev pub IsIn : List (Option Nexus) → Nexus → Type 0
IsIn directory nexus = (key : ℕ) × (nexus_at directory key ≡ Some nexus)
