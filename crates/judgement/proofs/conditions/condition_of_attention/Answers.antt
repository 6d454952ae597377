use Rattle.std.proofs.Common.{rules}
use Rattle.judgement.proofs.conditions.condition_of_attention.Goals as goal

pub returns-in-BusDeviceReset : goal.returns-in-BusDeviceReset
returns-in-BusDeviceReset c = search rules fits 100
