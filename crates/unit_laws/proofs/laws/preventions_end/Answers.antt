use Rattle.std.proofs.Common.{refl}
use Rattle.scsi_cdb.specs.Commands as cdb
use Rattle.pr_core.specs.State.{keys_after}
use Rattle.device_server.specs.View.{profile_of}
use Rattle.unit_laws.proofs.laws.preventions_end.Goals as goal

pub returns : goal.returns
unfolding cdb.command_of profile_of keys_after
returns c tag = record {
  loss = refl;
  loss_of_another = refl;
  reset = refl;
  preempt_and_abort = refl;
  preempt = refl;
  refused = refl;
  another_key = refl;
  allow = refl;
  prevented = refl;
  ended = refl;
}
