use Rattle.std.proofs.Common.{◌≡◌, true, false, get_or, sym, ap, ◌∙◌, arith, rules}
use Rattle.std.proofs.lemmas.List.Sums.{prefix_len-drop_yes, prefix_len-drop_no, prefix_len-drop_all}
use Rattle.lun_router.specs.Seats.{is_drained}
use Rattle.lun_router.proofs.settling.drained_count.Goals as goal

pub loop-entry-preserved : goal.loop-entry-preserved
loop-entry-preserved c =
    let passed : c.is_drained.result ≡ true = search rules in
    let is : is_drained c.args.drained.now (get_or c.args.entries.now c.loop-entry.entry-index c.entry-item.result) ≡ true = ap (is_drained c.args.drained.now) (sym c.entry-item.is) ∙ sym c.is_drained.ensures ∙ passed in
    let one = prefix_len-drop_yes (is_drained c.args.drained.now) c.args.entries.now c.loop-entry.entry-index c.entry-item.result (omega arith) is in
    record { at = omega arith; left = omega (arith, one) }

pub returns-then-not-is_drained : goal.returns-then-not-is_drained
returns-then-not-is_drained c =
    let stopped : c.is_drained.result ≡ false = search rules in
    let is : is_drained c.args.drained.now (get_or c.args.entries.now c.loop-entry.entry-index c.entry-item.result) ≡ false = ap (is_drained c.args.drained.now) (sym c.entry-item.is) ∙ sym c.is_drained.ensures ∙ stopped in
    let none = prefix_len-drop_no (is_drained c.args.drained.now) c.args.entries.now c.loop-entry.entry-index c.entry-item.result (omega arith) is in
    omega (arith, none)

pub returns : goal.returns
returns c =
    let none = prefix_len-drop_all (is_drained c.args.drained.now) c.args.entries.now c.loop-entry.entry-index (omega arith) in
    omega (arith, none)
