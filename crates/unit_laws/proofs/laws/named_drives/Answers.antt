use Rattle.std.proofs.Common.{refl}
use Rattle.scsi_cdb.specs.Commands as cdb
use Rattle.device_server.specs.View.{profile_of}
use Rattle.unit_laws.proofs.laws.named_drives.Goals as goal

pub returns : goal.returns
unfolding cdb.command_of profile_of
returns c = record {
  into = refl;
  out_of = refl;
  neither = refl;
  upward = refl;
  downward = refl;
  onto_itself = refl;
  no_such_drive = refl;
  test_unit_ready = refl;
  cut_short = refl;
}
