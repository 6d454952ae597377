use Rattle.std.proofs.Common.{rules}
use Rattle.library_start.proofs.device.DeviceDeviceServer.reset.Goals as goal

pub returns-in-Tape : goal.returns-in-Tape
returns-in-Tape c = search rules
