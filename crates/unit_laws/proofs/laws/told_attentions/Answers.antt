use Rattle.std.proofs.Common.{refl}
use Rattle.scsi_cdb.specs.Commands as cdb
use Rattle.pr_core.specs.State.{keys_after}
use Rattle.device_server.specs.View.{profile_of}
use Rattle.unit_laws.proofs.laws.told_attentions.Goals as goal

pub returns-clause-senses : goal.returns-clause-senses
unfolding cdb.command_of profile_of keys_after
returns-clause-senses c tag = record {
  medium_changed = refl;
  power_on = refl;
  bus_device_reset = refl;
  nexus_loss = refl;
  mode_parameters_changed = refl;
  log_parameters_changed = refl;
  reservations_preempted = refl;
  reservations_released = refl;
  registrations_preempted = refl;
}

pub returns-clause-events : goal.returns-clause-events
unfolding cdb.command_of profile_of keys_after
returns-clause-events c tag = record {
  contact = refl;
  loss = refl;
  loss_of_another = refl;
  reset = refl;
  reset_of_all = refl;
  medium = refl;
  medium_for_all = refl;
}

pub returns-clause-mode : goal.returns-clause-mode
unfolding cdb.command_of profile_of keys_after
returns-clause-mode c tag = record { waits = refl; told_b = refl; told_c = refl; not_a = refl; unchanged = refl }

pub returns-clause-reservations : goal.returns-clause-reservations
unfolding cdb.command_of profile_of keys_after
returns-clause-reservations c tag = record { clear = refl; release = refl; preempt = refl; not_the_sender = refl }
