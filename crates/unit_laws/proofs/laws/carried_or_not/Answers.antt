use Rattle.std.proofs.Common.{refl}
use Rattle.scsi_cdb.specs.Commands as cdb
use Rattle.pr_core.specs.State.{keys_after}
use Rattle.device_server.specs.View.{profile_of}
use Rattle.unit_laws.proofs.laws.carried_or_not.Goals as goal

pub returns-clause-moves : goal.returns-clause-moves
unfolding cdb.command_of profile_of keys_after
returns-clause-moves c = record { into = refl; out_of = refl; prevented = refl; of_nothing = refl; at_a_held_changer = refl }
