use Rattle.script_lines.proofs.BlockLemmas.{filled, filled_fails}
use Rattle.script_lines.proofs.digits.add_rest.Goals as goal

pub returns-in_default : goal.returns-in_default
returns-in_default c = filled_fails c.args.digits.now _ _ c.requires.even c.requires.few c.begin_with.ensures c.in_default.ensures

pub returns : goal.returns
returns c = filled c.args.digits.now _ c.in-Some.read _ _ c.requires.even c.requires.few c.begin_with.ensures c.in-Some.ensures c.in_ok-extend_from_slice.ensures.items
