use Rattle.std.proofs.Common.{◌++◌, refl}
use Rattle.std.proofs.Output.{has_written_append, has_written_of_eq}
use Rattle.permission_chart.specs.Chart.{class_line, roles_line, types_line}
use Rattle.permission_chart.proofs.Pieces.{piece-take}
use Rattle.scsi_cdb.specs.declared.classes.Class.TheVariants.{TestUnitReady}
use Rattle.permission_chart.proofs.chart.ChartDisplay.fmt.Goals as goal

pub loop-class-preserved : goal.loop-class-preserved
loop-class-preserved g c = λ plain.
    let so_far = c.loop-class.invariant plain in
    let wrote = c.in_ok-write.ensures.writes so_far.plain refl in
    has_written_of_eq _ _ _ _ _ (piece-take class_line (types_line ++ roles_line) c.args.self.now.classes.now c.loop-class.class-index TestUnitReady c.loop-class-test.true)
    (has_written_append _ _ _ _ _ _ so_far wrote)
