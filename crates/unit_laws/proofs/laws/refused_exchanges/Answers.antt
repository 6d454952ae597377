use Rattle.std.proofs.Common.{refl}
use Rattle.scsi_cdb.specs.Commands as cdb
use Rattle.pr_core.specs.State.{keys_after}
use Rattle.device_server.specs.View.{profile_of}
use Rattle.unit_laws.proofs.laws.refused_exchanges.Goals as goal

pub returns-clause-drive : goal.returns-clause-drive
unfolding cdb.command_of profile_of keys_after
returns-clause-drive c = record {
  prevented = record { told = refl; changer = refl; drive = refl };
  prevented_at_the_source = record { told = refl; changer = refl; drive = refl };
  other_volume = record { told = refl; changer = refl; drive = refl };
  bay_empty = record { told = refl; changer = refl; drive = refl };
  source_empty = record { told = refl; changer = refl; drive = refl };
  first_empty = record { told = refl; changer = refl; drive = refl };
  second_full = record { told = refl; changer = refl; drive = refl };
  at_a_held_changer = record { told = refl; changer = refl; drive = refl };
}

pub returns-clause-two_drives : goal.returns-clause-two_drives
unfolding cdb.command_of profile_of keys_after
returns-clause-two_drives c = record { told = refl; changer = refl }
