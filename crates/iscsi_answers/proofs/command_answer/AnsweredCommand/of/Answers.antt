use Rattle.std.proofs.Common.{rules}
use Rattle.iscsi_answers.proofs.command_answer.AnsweredCommand.of.Goals as goal

pub returns : goal.returns
returns c = search rules
