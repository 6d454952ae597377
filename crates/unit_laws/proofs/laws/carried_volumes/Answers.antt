use Rattle.std.proofs.Common.{refl}
use Rattle.scsi_cdb.specs.Commands as cdb
use Rattle.pr_core.specs.State.{keys_after}
use Rattle.device_server.specs.View.{profile_of}
use Rattle.unit_laws.proofs.laws.carried_volumes.Goals as goal

pub returns-clause-into : goal.returns-clause-into
unfolding cdb.command_of profile_of keys_after
returns-clause-into c = record { told = refl; asked = refl; changer = refl; drive = refl; came = refl; waits = refl }

pub returns-clause-out : goal.returns-clause-out
unfolding cdb.command_of profile_of keys_after
returns-clause-out c = record { told = refl; changer = refl; drive = refl; went = refl; reservation = refl; waits = refl }

pub returns-clause-between : goal.returns-clause-between
unfolding cdb.command_of profile_of keys_after
returns-clause-between c = record {
  up_told = refl;
  up_changer = refl;
  up_low = refl;
  up_high = refl;
  up_went = refl;
  up_came = refl;
  down_told = refl;
  down_changer = refl;
  down_low = refl;
  down_high = refl;
}
