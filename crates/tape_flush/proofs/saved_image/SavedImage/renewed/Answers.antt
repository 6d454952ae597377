use Rattle.std.proofs.Common.{sym, subst, ap, ◌∙◌}
use Rattle.tape_flush.specs.Watched.{WatchedValue}
use Rattle.tape_flush.specs.Stores.{IsNewFile}
use Rattle.tape_flush.proofs.NewFile.{new_file_holds}
use Rattle.tape_flush.proofs.saved_image.SavedImage.renewed.Goals as goal

pub returns-clause-has : goal.returns-clause-has
returns-clause-has g c =
    new_file_holds (g.S.ImageStore.file c.new.result.store) c.new.result.known c.new-2.result.items
    (subst (λ (w : WatchedValue g.row.S.Denot). IsNewFile (g.S.ImageStore.file w.store)) (sym c.new.ensures) c.in_ok-store.ensures)
    (ap (λ (w : WatchedValue g.row.S.Denot). w.known) c.new.ensures ∙ c.opened.ensures) c.new-2.ensures.items
