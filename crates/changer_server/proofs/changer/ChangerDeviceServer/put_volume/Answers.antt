use Rattle.std.proofs.Common.{rules}
use Rattle.changer_server.proofs.changer.ChangerDeviceServer.put_volume.Goals as goal

pub returns-clause-ok : goal.returns-clause-ok
returns-clause-ok c = search rules
