use Rattle.std.proofs.Common.{rules}
use Rattle.changer_server.proofs.changer.ChangerDeviceServer.reset.Goals as goal

pub returns : goal.returns
returns c = search rules
