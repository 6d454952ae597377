use Rattle.std.proofs.lemmas.Grind.{common_steps}
use Rattle.std.proofs.Common.{arith, sym, ap, ◌∙◌, drop}
use Rattle.std.specs.Prelude.{List}
use Rattle.device_server.specs.Marks.{marks}
use Rattle.logical_unit.specs.UnitView.{UnitView}
use Rattle.target_core.specs.Faults.{agree}
use Rattle.target_core.proofs.Ordered.{drives_end, none_left}
use Rattle.target_core.proofs.order.+agree.Goals as goal

pub returns-in-empty : goal.returns-in-empty
returns-in-empty g t c =
    drives_end c.args.changer.now.unit.device c.args.from c.drives.result c.requires.kind c.drives.ensures c.requires.within
    ∙ ap (λ (ds : List UnitView). agree (drop c.args.from (marks c.args.changer.now.unit.device)) ds) (sym (none_left c.args.drives.now c.in-empty.len_below))

pub returns-else-is_same_mark : goal.returns-else-is_same_mark
returns-else-is_same_mark g t c = grind (arith, common_steps)

pub returns-then-is_same_mark : goal.returns-then-is_same_mark
returns-then-is_same_mark g t c = grind (arith, common_steps)
