use Rattle.std.proofs.Common.{arith}
use Rattle.std.proofs.lemmas.Grind.{common_steps}
use Rattle.pr_params.proofs.PairLaws.{key_in-drop}
use Rattle.pr_params.proofs.status_data.key_of.Goals as goal

pub returns-then-eq : goal.returns-then-eq
returns-then-eq c = grind (arith, common_steps, key_in-drop c.args.nexus c.args.pairs.now c.loop-registered.registered-index (record { 0 = record { sas = 0; port = 0 }; 1 = 0 }))
