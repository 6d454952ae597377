use Rattle.std.proofs.Common.{rules, ◌≡◌, ◌+◌, true, false, length, sym, ◌∙◌}
use Rattle.std.specs.Str.{bytes_eq}
use Rattle.iscsi_login.proofs.Items.{declared_here, declared_behind}
use Rattle.iscsi_login.proofs.names.value_named.Goals as goal

pub returns-then-eq : goal.returns-then-eq
returns-then-eq c =
    let same : bytes_eq c.in-Pair.name.now c.args.wanted.now ≡ true = search rules in
    sym (declared_here (length c.args.text.now + 1) c.items.counter c.args.wanted.now c.items.left.now _ _ _ c.items-test.true c.in-Pair.ensures.item same) ∙ c.items.invariant

pub items-preserved : goal.items-preserved
items-preserved c =
    let other : bytes_eq c.in-Pair.name.now c.args.wanted.now ≡ false = search rules in
    sym (declared_behind (length c.args.text.now + 1) c.items.counter c.args.wanted.now c.items.left.now _ _ _ c.items-test.true c.in-Pair.ensures.item other) ∙ c.items.invariant
