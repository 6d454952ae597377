use Rattle.tape_flush.proofs.Going.{joined}
use Rattle.tape_flush.proofs.Knowing.{goes_known}
use Rattle.tape_flush.proofs.Replaced.{told_ok, told_err}
use Rattle.tape_flush.proofs.replacing.try_replace.Goals as goal

pub returns-clause-goes : goal.returns-clause-goes
returns-clause-goes g c = joined g.S.ImageStore.did _ _ _ _ _ _ c.cut_back.ensures.goes c.append.ensures.goes

pub returns-clause-ok : goal.returns-clause-ok
returns-clause-ok g c =
    told_ok c.append.result c.args.stay c.args.part.now _ _ _ _ _ _ _ _ c.in_default.ensures.ok c.append.ensures.ends_of_all c.append.ensures.ok c.append.ensures.added

pub returns-clause-err : goal.returns-clause-err
returns-clause-err g c =
    told_err c.append.result c.args.stay _ _ c.args.part.now.bytes _ _ _ _ _ _ c.requires.sound c.in_default.ensures.ok
    (λ is. goes_known g.S.ImageStore.did g.S.ImageStore.file g.met.S.ImageStore.does _ _ _ _ c.cut_back.ensures.goes is) c.append.ensures.same c.append.ensures.err
