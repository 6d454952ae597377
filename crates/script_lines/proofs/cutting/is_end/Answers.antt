use Rattle.script_lines.proofs.Cuts.{ended}
use Rattle.script_lines.proofs.cutting.is_end.Goals as goal

pub returns : goal.returns
returns c = ended c.args.words c.is_none.result c.is_none.ensures
