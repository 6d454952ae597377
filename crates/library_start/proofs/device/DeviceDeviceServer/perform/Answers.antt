use Rattle.std.proofs.Common.{rules}
use Rattle.library_start.proofs.device.DeviceDeviceServer.perform.Goals as goal

pub returns-in-Tape-clause-ok : goal.returns-in-Tape-clause-ok
returns-in-Tape-clause-ok c = search rules fits 100
