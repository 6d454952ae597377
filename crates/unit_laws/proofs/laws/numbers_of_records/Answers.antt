use Rattle.std.proofs.Common.{refl}
use Rattle.scsi_cdb.specs.Commands as cdb
use Rattle.pr_core.specs.State.{keys_after}
use Rattle.device_server.specs.View.{profile_of}
use Rattle.unit_laws.proofs.laws.numbers_of_records.Goals as goal

pub returns : goal.returns
unfolding cdb.command_of profile_of keys_after
returns c = record { changer = refl; drive = refl; none = refl; after_others = refl }
