use Rattle.std.proofs.Common.{sym, []}
use Rattle.unit_attention.proofs.SlotLemmas.{has-at}
use Rattle.unit_attention.proofs.queues.Queues.find.Goals as goal

pub returns-in-Ok-clause-found : goal.returns-in-Ok-clause-found
returns-in-Ok-clause-found c = sym (has-at c.args.nexus c.args.self.now c.in-Ok.place (c.args.nexus, []) c.in-Ok.ensures.found)
