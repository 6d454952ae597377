use Rattle.std.proofs.Common.{◌≡◌, ◌++◌, List, refl, ap, sym, ◌∙◌}
use Rattle.std.proofs.lemmas.List.{append-nil, take_all}
use Rattle.std.proofs.Output.{has_written_append, has_written_of_eq}
use Rattle.std.specs.Fmt.{styled_text}
use Rattle.std.specs.List.{flat_map}
use Rattle.permission_chart.proofs.NameColumn.{padded-class_name}
use Rattle.permission_chart.proofs.Pieces.{piece-take}
use Rattle.permission_chart.specs.Chart.{at_left, columns, letter, types}
use Rattle.permit_tables.specs.Text.{class_name}
use Rattle.permit_tables.specs.declared.res_type.ResType.{ResType}
use Rattle.permit_tables.specs.declared.res_type.ResType.TheVariants.{None}
use Rattle.permission_chart.proofs.row.RowDisplay.fmt.Goals as goal

pub loop-res_type-init : goal.loop-res_type-init
loop-res_type-init g c = λ plain.
    let class = c.args.self.now.class in
    let name : styled_text c.laid_out.result c.class_text-name.result.now ≡ at_left 27 (class_name class) = rw (c.laid_out.ensures, c.class_text-name.ensures) (padded-class_name class) in
    has_written_of_eq _ _ _ _ _ (name ∙ sym (append-nil (at_left 27 (class_name class)))) (c.in_ok-write.ensures.writes plain refl)

pub loop-res_type-preserved : goal.loop-res_type-preserved
loop-res_type-preserved g c = λ plain.
    let class = c.args.self.now.class in
    let so_far = c.loop-res_type.invariant plain in
    let piece = piece-take (λ t. columns t (letter class t)) (at_left 27 (class_name class)) types c.loop-res_type.res_type-index None c.loop-res_type-test.true in
    has_written_of_eq _ _ _ _ _ piece (has_written_append _ _ _ _ _ _ so_far (c.in_ok-write-2.ensures.writes so_far.plain refl))

pub returns-clause-writes : goal.returns-clause-writes
returns-clause-writes g c = λ plain ok.
    let class = c.args.self.now.class in
    let so_far = c.loop-res_type.invariant plain in
    let whole = ap (λ (ts : List ResType). at_left 27 (class_name class) ++ flat_map (λ t. columns t (letter class t)) ts) (take_all c.loop-res_type.res_type-index types c.loop-res_type-test.false) in
    has_written_append _ _ _ _ _ _ (has_written_of_eq _ _ _ _ _ whole so_far) (c.write_str.ensures.writes so_far.plain ok)
