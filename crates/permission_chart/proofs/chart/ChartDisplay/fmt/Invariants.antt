use Rattle.std.proofs.Common.{◌++◌, take}
use Rattle.std.specs.Fmt.{HasWritten, IsPlainFormatter}
use Rattle.std.specs.List.{flat_map}
use Rattle.permission_chart.specs.Chart.{class_line, roles_line, types_line}
use Rattle.permission_chart.proofs.chart.ChartDisplay.fmt.Given as goal

abbrev pub invariant-loop-class : goal.invariant-loop-class
invariant-loop-class g l = IsPlainFormatter l.fn.f → HasWritten g.W.Write.write_str_gives l.fn.f (types_line ++ roles_line ++ flat_map class_line (take l.class-index l.self.classes.now)) l.f
