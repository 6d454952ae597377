use Rattle.std.proofs.Common.{rules}
use Rattle.library_start.proofs.device.DeviceDeviceServer.put_volume.Goals as goal

pub returns-in-Tape-clause-ok : goal.returns-in-Tape-clause-ok
returns-in-Tape-clause-ok c = search rules

pub returns-in-Tape-clause-err : goal.returns-in-Tape-clause-err
returns-in-Tape-clause-err c = search rules
