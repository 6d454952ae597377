use Rattle.std.proofs.lemmas.Grind.{common_steps}
use Rattle.std.proofs.Common.{get_or, sym, ap, ◌∙◌, arith}
use Rattle.target_core.proofs.MovesInPlace.{names_at, one_within, two_within, alone_moved, empty_is, single_is, pair_is, lun_of, luns_of}
use Rattle.target_core.proofs.WhyBusy.{alone_busy}
use Rattle.target_core.proofs.target.command_with_drives.Goals as goal

pub move_at-requires-clause-named : goal.move_at-requires-clause-named
move_at-requires-clause-named g c =
    names_at c.args.changer.now c.args.drives.now c.args.received.now.commands c.args.received.now.cdb _ c.requires.ordered c.requires.kind
    (sym c.named-luns.ensures ∙ sym c.as_slice.ensures.value ∙ single_is c.as_slice.result.now c.in-len1.len_at_least c.in-len1.len_below ∙
    ap lun_of (sym c.from.ensures))

pub move_at-requires-clause-place : goal.move_at-requires-clause-place
move_at-requires-clause-place g c = (one_within c.args.changer.now c.args.drives.now c.args.received.now.cdb c.from.result
    c.requires.ordered (move_at-requires-clause-named g c)).0

pub move_at-requires-clause-within : goal.move_at-requires-clause-within
move_at-requires-clause-within g c = (one_within c.args.changer.now c.args.drives.now c.args.received.now.cdb c.from.result
    c.requires.ordered (move_at-requires-clause-named g c)).1

pub move_between-requires-clause-named : goal.move_between-requires-clause-named
move_between-requires-clause-named g c =
    names_at c.args.changer.now c.args.drives.now c.args.received.now.commands c.args.received.now.cdb _ c.requires.ordered c.requires.kind
    (sym c.named-luns.ensures ∙ sym c.as_slice.ensures.value ∙ pair_is c.as_slice.result.now c.in-len2-up.len_at_least
    c.as_slice.ensures.fits
    ∙ ap (λ l. luns_of l (get_or c.as_slice.result.now 1 0)) (sym c.from-low.ensures) ∙ ap (luns_of c.from-low.result)
    (sym c.from-high.ensures))

pub move_between-requires-clause-place : goal.move_between-requires-clause-place
move_between-requires-clause-place g c = (two_within c.args.changer.now c.args.drives.now c.args.received.now.cdb c.from-low.result
    c.from-high.result c.requires.ordered (move_between-requires-clause-named g c)).0

pub move_between-requires-clause-rising : goal.move_between-requires-clause-rising
move_between-requires-clause-rising g c = (two_within c.args.changer.now c.args.drives.now c.args.received.now.cdb c.from-low.result
    c.from-high.result c.requires.ordered (move_between-requires-clause-named g c)).1

pub move_between-requires-clause-within : goal.move_between-requires-clause-within
move_between-requires-clause-within g c = (two_within c.args.changer.now c.args.drives.now c.args.received.now.cdb c.from-low.result
    c.from-high.result c.requires.ordered (move_between-requires-clause-named g c)).2

pub returns-in-empty : goal.returns-in-empty
returns-in-empty g c =
    let names = names_at c.args.changer.now c.args.drives.now c.args.received.now.commands c.args.received.now.cdb _ c.requires.ordered c.requires.kind
    (sym c.named-luns.ensures ∙ sym c.as_slice.ensures.value ∙ empty_is c.as_slice.result.now c.in-empty.len_below) in
    record {
      step = alone_moved c.args.changer.now c.execute.new.self c.args.drives.now c.args.received.now.nexus c.args.received.now.cdb
          c.args.received.now.bytes c.execute.result names c.execute.ensures.unit;
      busy = alone_busy c.args.received.now.nexus c.args.received.now.cdb c.args.received.now.bytes c.execute.result c.args.changer.now
          c.args.drives.now names c.execute.ensures.busy;
    }

pub overflow_cast-drives : goal.overflow_cast-drives
overflow_cast-drives g c = grind (arith, common_steps)

pub execute-requires : goal.execute-requires
execute-requires g c = c.requires.kind
