use Rattle.std.proofs.Common.{◌≡◌, ◌<◌, ◌≤◌, lit<, length, subst, sym, ap, ◌∙◌, arith}
use Rattle.std.specs.FinMap.{put}
use Rattle.std.proofs.lemmas.List.Edits.{length-insert}
use Rattle.scsi_nexus.specs.Order.{nexus_cmp}
use Rattle.pr_core.specs.Table.{IsProper}
use Rattle.pr_core.proofs.PutLaws.{written, inserted}
use Rattle.pr_core.proofs.TableLaws.{proper-put}
use Rattle.pr_core.proofs.key_table.KeyTable.put.Goals as goal

pub invariant_of-self : goal.invariant_of-self
invariant_of-self c =
    subst IsProper (sym (written c.args.nexus c.args.key c.self.inside.entries.items c.as_mut_slice.result.now c.as_slice.result.now c.in-Ok.place (record { 0 = record { sas = 0; port = 0 }; 1 = 0 }) c.as_mut_slice.ensures.value c.as_slice.ensures.value c.in-Ok.ensures))
    (proper-put c.args.nexus c.args.key c.self.inside.entries.items c.requires.keyed c.self.invariant)

pub returns-in-Ok : goal.returns-in-Ok
returns-in-Ok c =
    written c.args.nexus c.args.key c.self.inside.entries.items c.as_mut_slice.result.now c.as_slice.result.now c.in-Ok.place (record { 0 = record { sas = 0; port = 0 }; 1 = 0 }) c.as_mut_slice.ensures.value c.as_slice.ensures.value c.in-Ok.ensures
    ∙ ap (put nexus_cmp c.args.nexus c.args.key) c.self.view_is

pub insert-requires : goal.insert-requires
insert-requires c =
    let whole = inserted c.args.nexus c.args.key c.self.inside.entries.items c.as_slice.result.now c.in-Err.place c.as_slice.ensures.value c.in-Err.ensures in
    let inside : c.in-Err.place ≤ length c.self.inside.entries.items = omega (arith, (c.in-Err.ensures).0, ap length c.as_slice.ensures.value) in
    let longer = length-insert c.self.inside.entries.items c.in-Err.place (c.args.nexus, c.args.key) inside in
    let now : length (put nexus_cmp c.args.nexus c.args.key c.self.inside.entries.items) ≡ length (put nexus_cmp c.args.nexus c.args.key c.args.self.now) = ap (λ x. length (put nexus_cmp c.args.nexus c.args.key x)) c.self.view_is in
    let room : length c.self.inside.entries.items < 256 = omega (arith, longer, ap length whole, now, c.requires.room) in
    (lit< tt, (inside, room))

pub invariant_of-self-in-Err : goal.invariant_of-self-in-Err
invariant_of-self-in-Err c =
    subst IsProper (sym (c.insert.ensures.items ∙ inserted c.args.nexus c.args.key c.self.inside.entries.items c.as_slice.result.now c.in-Err.place c.as_slice.ensures.value c.in-Err.ensures))
    (proper-put c.args.nexus c.args.key c.self.inside.entries.items c.requires.keyed c.self.invariant)

pub returns-in-Err : goal.returns-in-Err
returns-in-Err c =
    c.insert.ensures.items ∙ inserted c.args.nexus c.args.key c.self.inside.entries.items c.as_slice.result.now c.in-Err.place c.as_slice.ensures.value c.in-Err.ensures
    ∙ ap (put nexus_cmp c.args.nexus c.args.key) c.self.view_is
