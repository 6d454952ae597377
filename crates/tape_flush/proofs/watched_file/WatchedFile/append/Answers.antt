use Rattle.std.proofs.Common.{◌+◌, length, true, false, refl, ap, ◌∙◌}
use Rattle.tape_flush.specs.declared.known.Known.{Known}
use Rattle.tape_flush.specs.Stores.{Append}
use Rattle.tape_flush.specs.Careful.{stays}
use Rattle.tape_flush.specs.Watched.{WatchedValue}
use Rattle.tape_flush.proofs.Going.{called}
use Rattle.tape_flush.proofs.watched_file.WatchedFile.append.Goals as goal

pub returns-then-offset-count-clause-goes : goal.returns-then-offset-count-clause-goes
returns-then-offset-count-clause-goes g c = stays _ _

pub returns-in-Ok-clause-goes : goal.returns-in-Ok-clause-goes
returns-in-Ok-clause-goes g c =
    called g.S.ImageStore.did _ _ _ _ (Append c.self.inside.known.sound c.args.bytes.now true) c.self.view_is
    (c.requires, ap (λ (w : WatchedValue g.row.S.Denot). w.known.sound) c.self.view_is) c.in-Ok.ensures
    (c.grown-self-inside.ensures c.self.inside.known.sound c.args.bytes.now refl)

pub returns-in-Ok-clause-ok : goal.returns-in-Ok-clause-ok
returns-in-Ok-clause-ok g c =
    let is = c.grown-self-inside.ensures c.self.inside.known.sound c.args.bytes.now refl in (
      ap (λ (k : Known). k.tail) is ∙ ap (λ (w : WatchedValue g.row.S.Denot). w.known.tail) c.self.view_is ∙ c.requires,
      ap (λ (k : Known). k.sound) is ∙ ap (λ (w : WatchedValue g.row.S.Denot). w.known.sound + length c.args.bytes.now) c.self.view_is,
    )

pub returns-in-Err-clause-goes : goal.returns-in-Err-clause-goes
returns-in-Err-clause-goes g c =
    called g.S.ImageStore.did _ _ _ _ (Append c.self.inside.known.sound c.args.bytes.now false) c.self.view_is
    (c.requires, ap (λ (w : WatchedValue g.row.S.Denot). w.known.sound) c.self.view_is) c.in-Err.ensures
    (c.not_grown-self-inside.ensures c.self.inside.known.sound c.args.bytes.now)

pub returns-in-Err-clause-same : goal.returns-in-Err-clause-same
returns-in-Err-clause-same g c =
    ap (λ (k : Known). k.sound) (c.not_grown-self-inside.ensures 0 c.args.bytes.now) ∙ ap (λ (w : WatchedValue g.row.S.Denot). w.known.sound) c.self.view_is
