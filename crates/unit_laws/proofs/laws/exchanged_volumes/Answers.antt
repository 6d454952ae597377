use Rattle.std.proofs.Common.{refl}
use Rattle.scsi_cdb.specs.Commands as cdb
use Rattle.pr_core.specs.State.{keys_after}
use Rattle.device_server.specs.View.{profile_of}
use Rattle.unit_laws.proofs.laws.exchanged_volumes.Goals as goal

pub returns-clause-through : goal.returns-clause-through
unfolding cdb.command_of profile_of keys_after
returns-clause-through c = record {
  told = refl;
  asked = refl;
  changer = refl;
  drive = refl;
  went_and_came = refl;
  numbers = refl;
  waits = refl;
  reservation = refl;
  gave = refl;
}

pub returns-clause-swapped : goal.returns-clause-swapped
unfolding cdb.command_of profile_of keys_after
returns-clause-swapped c = record {
  told = refl;
  changer = refl;
  drive = refl;
  went_and_came = refl;
  gave = refl;
  back_changer = refl;
  back_drive = refl;
  back_gave = refl;
}

pub returns-clause-out : goal.returns-clause-out
unfolding cdb.command_of profile_of keys_after
returns-clause-out c = record { told = refl; changer = refl; drive = refl; went = refl; waits = refl; gave = refl }

pub returns-clause-into : goal.returns-clause-into
unfolding cdb.command_of profile_of keys_after
returns-clause-into c = record { told = refl; changer = refl; drive = refl; came = refl; gave = refl }
