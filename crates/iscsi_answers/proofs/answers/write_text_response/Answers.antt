use Rattle.std.proofs.Common.{rules}
use Rattle.iscsi_answers.proofs.answers.write_text_response.Goals as goal

pub returns : goal.returns
returns c = search rules
