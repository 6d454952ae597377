use Rattle.std.proofs.Common.{rules}
use Rattle.device_server.proofs.outcome.Outcome.good.Goals as goal

pub returns : goal.returns
returns c = search rules
