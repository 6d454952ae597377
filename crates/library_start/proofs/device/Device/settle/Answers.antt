use Rattle.device_server.specs.View.{Changer}
use Rattle.device_server.proofs.SettledLemmas.{settling_changes}
use Rattle.library_start.proofs.device.Device.settle.Goals as goal

pub returns-in-Changer-clause-same : goal.returns-in-Changer-clause-same
returns-in-Changer-clause-same c =
    rw c.in-Changer.is (rw c.settle.ensures (settling_changes (Changer c.in-Changer.changer) c.args.place c.args.objects))
