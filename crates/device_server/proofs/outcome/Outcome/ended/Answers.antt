use Rattle.std.proofs.Common.{rules}
use Rattle.device_server.proofs.outcome.Outcome.ended.Goals as goal

pub returns : goal.returns
returns c = search rules
