use Rattle.std.proofs.Common.{refl}
use Rattle.scsi_cdb.specs.Commands as cdb
use Rattle.device_server.specs.View.{profile_of}
use Rattle.unit_laws.proofs.laws.ends_of_exchanges.Goals as goal

pub returns-clause-names : goal.returns-clause-names
unfolding cdb.command_of profile_of
returns-clause-names c = record {
  first = refl;
  swap = refl;
  source = refl;
  second = refl;
  source_and_second = refl;
  none = refl;
  two_neighbours = refl;
  two_apart = refl;
  no_such_drive = refl;
  default_profile = refl;
}
