use Rattle.std.proofs.Common.{arith}
use Rattle.std.proofs.lemmas.Grind.{common_steps}
use Rattle.output_lines.specs.Replies.{answer_line}
use Rattle.output_lines.proofs.reply_line.write_answer.Goals as goal

pub returns : goal.returns
unfolding answer_line
returns c = grind (arith, common_steps)
