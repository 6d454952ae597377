use Rattle.std.proofs.Common.{◌≡◌, ◌+◌, ◌∷◌, [], ℕ, sym, ap, ◌∙◌, subst, rules}
use Rattle.device_server.specs.View.{drives_of}
use Rattle.logical_unit.specs.Route.{named}
use Rattle.logical_unit.specs.UnitView.{last_number}
use Rattle.kept_unit.specs.Keeping.{KeptValue}
use Rattle.kept_unit.proofs.Counting.{kept_commands, kept_names, same_kept}
use Rattle.kept_unit.proofs.Moves.{two_move}
use Rattle.kept_unit.proofs.carrying.move_kept_two.Goals as goal

pub invariant_of-changer : goal.invariant_of-changer
invariant_of-changer g c =
    let names = kept_names _ 0 c.changer.inside.unit.unit _ _ _ c.args.received.now.commands c.args.received.now.cdb (g.row.LOW ∷ g.row.HIGH ∷ []) c.changer.invariant c.requires.commands
    (subst (λ (v : KeptValue). named c.args.received.now.commands (drives_of v.unit.device) c.args.received.now.cdb ≡ g.row.LOW ∷ g.row.HIGH ∷ []) (sym c.changer.view_is)
    c.requires.named) in
    let m = two_move c.changer.inside.unit.unit c.carry_out_move_two-done.new.changer.unit
    (record { low = c.low.inside.unit.unit; high = c.high.inside.unit.unit })
    (record { low = c.carry_out_move_two-done.new.low.unit; high = c.carry_out_move_two-done.new.high.unit }) g.row.LOW g.row.HIGH
    c.args.received.now.nexus c.args.received.now.cdb c.args.received.now.bytes c.carry_out_move_two-done.result.reply
    c.carry_out_move_two-done.result.numbers names c.carry_out_move_two-done.ensures.step c.carry_out_move_two-done.ensures.numbers
    c.changer.invariant.place c.low.invariant.place c.high.invariant.place c.requires.drives.0 c.requires.drives.1 in
    same_kept _ 0 c.changer.inside.unit.unit c.carry_out_move_two-done.new.changer.unit c.count_at.result _ _ _ _ m.changer
    c.changer.invariant
    (m.counts.changer ∙ ap (λ (k : ℕ). last_number c.changer.inside.unit.unit + k) (sym c.count_at.ensures)) c.add.ensures.total

pub invariant_of-low : goal.invariant_of-low
invariant_of-low g c =
    let names = kept_names _ 0 c.changer.inside.unit.unit _ _ _ c.args.received.now.commands c.args.received.now.cdb (g.row.LOW ∷ g.row.HIGH ∷ []) c.changer.invariant c.requires.commands
    (subst (λ (v : KeptValue). named c.args.received.now.commands (drives_of v.unit.device) c.args.received.now.cdb ≡ g.row.LOW ∷ g.row.HIGH ∷ []) (sym c.changer.view_is)
    c.requires.named) in
    let m = two_move c.changer.inside.unit.unit c.carry_out_move_two-done.new.changer.unit
    (record { low = c.low.inside.unit.unit; high = c.high.inside.unit.unit })
    (record { low = c.carry_out_move_two-done.new.low.unit; high = c.carry_out_move_two-done.new.high.unit }) g.row.LOW g.row.HIGH
    c.args.received.now.nexus c.args.received.now.cdb c.args.received.now.bytes c.carry_out_move_two-done.result.reply
    c.carry_out_move_two-done.result.numbers names c.carry_out_move_two-done.ensures.step c.carry_out_move_two-done.ensures.numbers
    c.changer.invariant.place c.low.invariant.place c.high.invariant.place c.requires.drives.0 c.requires.drives.1 in
    same_kept _ g.row.LOW c.low.inside.unit.unit c.carry_out_move_two-done.new.low.unit c.count_at-2.result _ _ _ _ m.low c.low.invariant
    (m.counts.low ∙ ap (λ (k : ℕ). last_number c.low.inside.unit.unit + k) (sym c.count_at-2.ensures)) c.add-2.ensures.total

pub invariant_of-high : goal.invariant_of-high
invariant_of-high g c =
    let names = kept_names _ 0 c.changer.inside.unit.unit _ _ _ c.args.received.now.commands c.args.received.now.cdb (g.row.LOW ∷ g.row.HIGH ∷ []) c.changer.invariant c.requires.commands
    (subst (λ (v : KeptValue). named c.args.received.now.commands (drives_of v.unit.device) c.args.received.now.cdb ≡ g.row.LOW ∷ g.row.HIGH ∷ []) (sym c.changer.view_is)
    c.requires.named) in
    let m = two_move c.changer.inside.unit.unit c.carry_out_move_two-done.new.changer.unit
    (record { low = c.low.inside.unit.unit; high = c.high.inside.unit.unit })
    (record { low = c.carry_out_move_two-done.new.low.unit; high = c.carry_out_move_two-done.new.high.unit }) g.row.LOW g.row.HIGH
    c.args.received.now.nexus c.args.received.now.cdb c.args.received.now.bytes c.carry_out_move_two-done.result.reply
    c.carry_out_move_two-done.result.numbers names c.carry_out_move_two-done.ensures.step c.carry_out_move_two-done.ensures.numbers
    c.changer.invariant.place c.low.invariant.place c.high.invariant.place c.requires.drives.0 c.requires.drives.1 in
    same_kept _ g.row.HIGH c.high.inside.unit.unit c.carry_out_move_two-done.new.high.unit c.count_at-3.result _ _ _ _ m.high c.high.invariant
    (m.counts.high ∙ ap (λ (k : ℕ). last_number c.high.inside.unit.unit + k) (sym c.count_at-3.ensures)) c.add-3.ensures.total

pub returns-clause-step : goal.returns-clause-step
returns-clause-step g c =
    rw (
      ← ap (λ (v : KeptValue). v.unit) c.changer.view_is,
      ← ap (λ (v : KeptValue). v.unit) c.low.view_is,
      ← ap (λ (v : KeptValue). v.unit)
          c.high.view_is,
    ) c.carry_out_move_two-done.ensures.step

pub returns-clause-only : goal.returns-clause-only
returns-clause-only g c =
    let names = kept_names _ 0 c.changer.inside.unit.unit _ _ _ c.args.received.now.commands c.args.received.now.cdb (g.row.LOW ∷ g.row.HIGH ∷ []) c.changer.invariant c.requires.commands
    (subst (λ (v : KeptValue). named c.args.received.now.commands (drives_of v.unit.device) c.args.received.now.cdb ≡ g.row.LOW ∷ g.row.HIGH ∷ []) (sym c.changer.view_is)
    c.requires.named) in
    let m = two_move c.changer.inside.unit.unit c.carry_out_move_two-done.new.changer.unit
    (record { low = c.low.inside.unit.unit; high = c.high.inside.unit.unit })
    (record { low = c.carry_out_move_two-done.new.low.unit; high = c.carry_out_move_two-done.new.high.unit }) g.row.LOW g.row.HIGH
    c.args.received.now.nexus c.args.received.now.cdb c.args.received.now.bytes c.carry_out_move_two-done.result.reply
    c.carry_out_move_two-done.result.numbers names c.carry_out_move_two-done.ensures.step c.carry_out_move_two-done.ensures.numbers
    c.changer.invariant.place c.low.invariant.place c.high.invariant.place c.requires.drives.0 c.requires.drives.1 in
    m.counts.only

pub returns-clause-high_book : goal.returns-clause-high_book
returns-clause-high_book g c = search rules fits 100

pub returns-clause-high_part : goal.returns-clause-high_part
returns-clause-high_part g c = search rules fits 100
