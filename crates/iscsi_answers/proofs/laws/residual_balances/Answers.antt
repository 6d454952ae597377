use Rattle.std.proofs.Common.{◌≡◌, ℕ, ◌+◌, arith}
use Rattle.std.proofs.lemmas.Bool.Decides.{nat_tests}
use Rattle.iscsi_answers.specs.CommandAnswers.{residual_between, transferable}
use Rattle.iscsi_answers.specs.Laws.{over, under}
use Rattle.iscsi_answers.proofs.laws.residual_balances.Goals as goal

balances : (expected there : ℕ) → there + under (residual_between expected there) ≡ expected + over (residual_between expected there)
balances expected there = grind (arith, nat_tests)

pub returns : goal.returns
returns c command bytes = balances command.expected_data_transfer_length (transferable command bytes)
