use Rattle.std.proofs.Common.{refl}
use Rattle.scsi_cdb.specs.Commands as cdb
use Rattle.pr_core.specs.State.{keys_after}
use Rattle.device_server.specs.View.{profile_of}
use Rattle.unit_laws.proofs.laws.refused_moves.Goals as goal

pub returns-clause-drives : goal.returns-clause-drives
unfolding cdb.command_of profile_of keys_after
returns-clause-drives c = record {
  prevented = record { told = refl; changer = refl; drive = refl };
  prevented_first = record { told = refl; changer = refl; drive = refl };
  bay_empty = record { told = refl; changer = refl; drive = refl };
  other_volume = record { told = refl; changer = refl; drive = refl };
  bay_full = record { told = refl; changer = refl; drive = refl };
  element_full = record { told = refl; changer = refl; drive = refl };
}

pub returns-clause-changer : goal.returns-clause-changer
unfolding cdb.command_of profile_of keys_after
returns-clause-changer c = record { other = record { told = refl; changer = refl; drive = refl } }
