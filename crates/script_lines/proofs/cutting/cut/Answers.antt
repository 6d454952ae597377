use Rattle.script_lines.proofs.Cuts.{cut_nowhere, cut_rest}
use Rattle.script_lines.proofs.cutting.cut.Goals as goal

pub returns-in-None-clause-parts : goal.returns-in-None-clause-parts
returns-in-None-clause-parts c = cut_nowhere c.args.at c.args.bytes.now c.in-None.ensures

pub returns-in-Some-clause-parts : goal.returns-in-Some-clause-parts
returns-in-Some-clause-parts c = cut_rest c.args.at c.args.bytes.now c.in-Some.place c.in-Some.ensures
