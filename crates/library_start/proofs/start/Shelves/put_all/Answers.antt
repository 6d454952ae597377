use Rattle.library_start.proofs.StartLemmas.{AreShelved-more}
use Rattle.library_start.proofs.start.Shelves.put_all.Goals as goal

pub volumes-preserved : goal.volumes-preserved
volumes-preserved c =
    AreShelved-more c.args.self.now c.volumes.self c.put.new.self c.volumes.yielded c.in-Some.started c.volumes.invariant c.in_ok-put.ensures
