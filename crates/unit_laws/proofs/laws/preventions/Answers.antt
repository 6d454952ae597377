use Rattle.std.proofs.Common.{refl}
use Rattle.scsi_cdb.specs.Commands as cdb
use Rattle.pr_core.specs.State.{keys_after}
use Rattle.device_server.specs.View.{profile_of}
use Rattle.unit_laws.proofs.laws.preventions.Goals as goal

pub returns-clause-unloading : goal.returns-clause-unloading
unfolding cdb.command_of profile_of keys_after
returns-clause-unloading c tag = record { hold = refl; prevented = refl }

pub returns-clause-preventing : goal.returns-clause-preventing
unfolding cdb.command_of profile_of keys_after
returns-clause-preventing c tag = record { one = refl; two = refl; two_refused = refl; three = refl; three_refused = refl; zero = refl }
