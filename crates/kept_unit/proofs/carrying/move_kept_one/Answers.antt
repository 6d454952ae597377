use Rattle.std.proofs.Common.{◌≡◌, ◌+◌, ◌∷◌, [], ℕ, sym, ap, ◌∙◌, subst}
use Rattle.device_server.specs.View.{drives_of}
use Rattle.logical_unit.specs.Route.{named}
use Rattle.logical_unit.specs.UnitView.{last_number}
use Rattle.kept_unit.specs.Keeping.{KeptValue}
use Rattle.kept_unit.proofs.Counting.{kept_commands, kept_names, same_kept}
use Rattle.kept_unit.proofs.Moves.{one_move}
use Rattle.kept_unit.proofs.carrying.move_kept_one.Goals as goal

pub invariant_of-changer : goal.invariant_of-changer
invariant_of-changer g c =
    let names = kept_names _ 0 c.changer.inside.unit.unit _ _ _ c.args.received.now.commands c.args.received.now.cdb (g.row.LUN ∷ []) c.changer.invariant c.requires.commands
    (subst (λ (v : KeptValue). named c.args.received.now.commands (drives_of v.unit.device) c.args.received.now.cdb ≡ g.row.LUN ∷ []) (sym c.changer.view_is)
    c.requires.named) in
    let m = one_move c.changer.inside.unit.unit c.drive.inside.unit.unit c.carry_out_move_one-done.new.changer.unit
    c.carry_out_move_one-done.new.drive.unit g.row.LUN c.args.received.now.nexus c.args.received.now.cdb c.args.received.now.bytes
    c.carry_out_move_one-done.result.reply c.carry_out_move_one-done.result.numbers names c.carry_out_move_one-done.ensures.step
    c.carry_out_move_one-done.ensures.numbers c.changer.invariant.place c.drive.invariant.place c.requires.drive in
    same_kept _ 0 c.changer.inside.unit.unit c.carry_out_move_one-done.new.changer.unit c.count_at.result _ _ _ _ m.changer
    c.changer.invariant
    (m.counts.changer ∙ ap (λ (k : ℕ). last_number c.changer.inside.unit.unit + k) (sym c.count_at.ensures)) c.add.ensures.total

pub invariant_of-drive : goal.invariant_of-drive
invariant_of-drive g c =
    let names = kept_names _ 0 c.changer.inside.unit.unit _ _ _ c.args.received.now.commands c.args.received.now.cdb (g.row.LUN ∷ []) c.changer.invariant c.requires.commands
    (subst (λ (v : KeptValue). named c.args.received.now.commands (drives_of v.unit.device) c.args.received.now.cdb ≡ g.row.LUN ∷ []) (sym c.changer.view_is)
    c.requires.named) in
    let m = one_move c.changer.inside.unit.unit c.drive.inside.unit.unit c.carry_out_move_one-done.new.changer.unit
    c.carry_out_move_one-done.new.drive.unit g.row.LUN c.args.received.now.nexus c.args.received.now.cdb c.args.received.now.bytes
    c.carry_out_move_one-done.result.reply c.carry_out_move_one-done.result.numbers names c.carry_out_move_one-done.ensures.step
    c.carry_out_move_one-done.ensures.numbers c.changer.invariant.place c.drive.invariant.place c.requires.drive in
    same_kept _ g.row.LUN c.drive.inside.unit.unit c.carry_out_move_one-done.new.drive.unit c.count_at-2.result _ _ _ _ m.drive
    c.drive.invariant
    (m.counts.drive ∙ ap (λ (k : ℕ). last_number c.drive.inside.unit.unit + k) (sym c.count_at-2.ensures)) c.add-2.ensures.total

pub returns-clause-step : goal.returns-clause-step
returns-clause-step g c =
    rw (← ap (λ (v : KeptValue). v.unit) c.changer.view_is, ← ap (λ (v : KeptValue). v.unit) c.drive.view_is)
    c.carry_out_move_one-done.ensures.step

pub returns-clause-only : goal.returns-clause-only
returns-clause-only g c =
    let names = kept_names _ 0 c.changer.inside.unit.unit _ _ _ c.args.received.now.commands c.args.received.now.cdb (g.row.LUN ∷ []) c.changer.invariant c.requires.commands
    (subst (λ (v : KeptValue). named c.args.received.now.commands (drives_of v.unit.device) c.args.received.now.cdb ≡ g.row.LUN ∷ []) (sym c.changer.view_is)
    c.requires.named) in
    let m = one_move c.changer.inside.unit.unit c.drive.inside.unit.unit c.carry_out_move_one-done.new.changer.unit
    c.carry_out_move_one-done.new.drive.unit g.row.LUN c.args.received.now.nexus c.args.received.now.cdb c.args.received.now.bytes
    c.carry_out_move_one-done.result.reply c.carry_out_move_one-done.result.numbers names c.carry_out_move_one-done.ensures.step
    c.carry_out_move_one-done.ensures.numbers c.changer.invariant.place c.drive.invariant.place c.requires.drive in
    m.counts.only
