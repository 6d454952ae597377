-- The nexuses that a REGISTER of either kind names (SPC-4, "PERSISTENT RESERVE OUT parameter list").
use Rattle.std.specs.Prelude.{ℕ, Bool, if◌then◌else◌, List, [], ◌∷◌, ◌++◌, is_some}
use Rattle.std.specs.List.{flat_map, list_any}
use Rattle.scsi_nexus.specs.declared.nexus.Nexus.{Nexus}
use Rattle.scsi_nexus.specs.Order.{same_nexus}
use Rattle.permit_tables.specs.declared.out_params.OutParams.{OutParams}

-- a SAS address at every port of the target
abbrev pub at_all_ports : ℕ → List Nexus
at_all_ports sas =
    record { sas = sas; port = 1 } ∷ record { sas = sas; port = 2 } ∷ record { sas = sas; port = 3 } ∷ record { sas = sas; port = 4 } ∷ []

-- a SAS address at a sender's port, or with ALL_TG_PT at every one
abbrev pub at_ports : Nexus → OutParams → ℕ → List Nexus
at_ports s p sas = if p.all_ports then at_all_ports sas else record { sas = sas; port = s.port } ∷ []

-- the sender; with ALL_TG_PT its SAS address at every port; and each listed address. A list with a defect names its sender alone
abbrev pub targets : Nexus → OutParams → List Nexus
targets s p =
    if is_some p.defect then s ∷ []
    else s ∷ (if p.all_ports then at_all_ports s.sas else []) ++ flat_map (at_ports s p) p.targets.items

-- whether a nexus is one of these
abbrev pub is_among : Nexus → List Nexus → Bool
is_among n targets = list_any (same_nexus n) targets
