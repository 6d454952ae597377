use Rattle.std.proofs.Common.{◌≤◌, is_ok, ap, arith}
use Rattle.tape_flush.specs.Stores.{Note}
use Rattle.tape_flush.specs.Careful.{stays}
use Rattle.tape_flush.specs.Watched.{WatchedValue}
use Rattle.tape_flush.proofs.Going.{one_call}
use Rattle.tape_flush.proofs.watched_file.WatchedFile.note_less.Goals as goal

pub returns-then-self-size-clause-goes : goal.returns-then-self-size-clause-goes
returns-then-self-size-clause-goes g c = stays _ _

pub returns-clause-goes : goal.returns-clause-goes
returns-clause-goes g c =
    let same = ap (λ (w : WatchedValue g.row.S.Denot). w.known.most) c.self.view_is in
    let size : c.args.size ≤ c.args.self.now.known.synced = omega (arith, c.requires.0, c.if-self-size.false, same) in
    one_call g.S.ImageStore.did _ _ _ _ (Note c.args.size (is_ok c.note.result)) size c.note.ensures.did c.note.ensures.known
