use Rattle.std.proofs.Common.{◌++◌, take}
use Rattle.std.specs.Fmt.{HasWritten, IsPlainFormatter}
use Rattle.std.specs.List.{flat_map}
use Rattle.permission_chart.specs.Chart.{at_left, columns, letter}
use Rattle.permit_tables.specs.Text.{class_name}
use Rattle.permission_chart.proofs.row.RowDisplay.fmt.Given as goal

abbrev pub invariant-loop-res_type : goal.invariant-loop-res_type
invariant-loop-res_type g l = IsPlainFormatter l.fn.f → HasWritten g.W.Write.write_str_gives l.fn.f (at_left 27 (class_name l.self.class) ++ flat_map (λ t. columns t (letter l.self.class t)) (take l.res_type-index l.res_type-items)) l.f
