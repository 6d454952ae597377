use Rattle.std.proofs.Common.{ap, map, sym, ◌∙◌, rules}
use Rattle.std.proofs.lemmas.List.{take_all}
use Rattle.std.proofs.lemmas.List.Elements.{All-more, All-contains}
use Rattle.std.specs.Char.{to_ascii_lowercase}
use Rattle.permission_chart.specs.Classes.{every_class}
use Rattle.permission_chart.specs.Names.{IsNameOf}
use Rattle.scsi_cdb.specs.declared.classes.Class.TheVariants.{TestUnitReady}
use Rattle.permission_chart.proofs.classes.class_named.Goals as goal

pub loop-class-preserved : goal.loop-class-preserved
loop-class-preserved c =
    All-more (λ k. ¬ IsNameOf c.args.name.now k) c.classes_of-class-items.result.now c.loop-class.class-index TestUnitReady c.loop-class-test.true c.loop-class.invariant
    (λ same. let different = c.if-eq_ignore_ascii_case.ensures.test.1 (same ∙ sym (ap (map to_ascii_lowercase) c.class_text.ensures)) in search (rules, different))

pub returns : goal.returns
returns c = λ k named.
    let none = rw (take_all c.loop-class.class-index c.classes_of-class-items.result.now c.loop-class-test.false) at c.loop-class.invariant in
    All-contains (λ x. ¬ IsNameOf c.args.name.now x) (every_class c.args.profile) k (rw c.classes_of-class-items.ensures at none) named.0 named.1

pub returns-then-eq_ignore_ascii_case : goal.returns-then-eq_ignore_ascii_case
returns-then-eq_ignore_ascii_case c = search rules
