use Rattle.std.proofs.Common.{refl}
use Rattle.scsi_cdb.specs.Commands as cdb
use Rattle.pr_core.specs.State.{keys_after}
use Rattle.device_server.specs.View.{profile_of}
use Rattle.unit_laws.proofs.laws.attentions.Goals as goal

pub returns-clause-sensing : goal.returns-clause-sensing
unfolding cdb.command_of profile_of keys_after
returns-clause-sensing c tag = record { all = refl; none = refl; none_clears = refl; descriptor_keeps = refl }

pub returns-clause-contact : goal.returns-clause-contact
unfolding cdb.command_of profile_of keys_after
returns-clause-contact c tag = record { slot = refl; told = refl; invalid = refl }
