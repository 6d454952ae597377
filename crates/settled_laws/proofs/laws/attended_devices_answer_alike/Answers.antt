use Rattle.settled_laws.proofs.Performing.{attended_alike}
use Rattle.settled_laws.proofs.laws.attended_devices_answer_alike.Goals as goal

pub returns : goal.returns
returns c = attended_alike
