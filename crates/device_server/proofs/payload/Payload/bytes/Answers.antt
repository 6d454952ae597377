use Rattle.std.proofs.Common.{rules}
use Rattle.device_server.proofs.payload.Payload.bytes.Goals as goal

pub returns-clause-bytes : goal.returns-clause-bytes
returns-clause-bytes c = search rules
