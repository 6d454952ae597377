use Rattle.std.proofs.Common.{true, false, ap, arith}
use Rattle.tape_flush.specs.declared.known.Known.{Known}
use Rattle.tape_flush.specs.Stores.{Truncate, Sync}
use Rattle.tape_flush.specs.Careful.{GoesOn}
use Rattle.tape_flush.proofs.Going.{one_call, joined}
use Rattle.tape_flush.proofs.Knowing.{goes_known}
use Rattle.tape_flush.proofs.Cutting.{stopped_noting, stopped_cutting, stopped_syncing}
use Rattle.tape_flush.proofs.watched_file.WatchedFile.cut_back.Goals as goal

pub returns-in-Err-clause-err : goal.returns-in-Err-clause-err
returns-in-Err-clause-err g c piece =
    stopped_noting c.args.size piece _ _ _ _ c.in-Err.fault c.requires.sound c.note_less.ensures.known.0 c.note_less.ensures.contents

pub returns-in-Err-truncate-clause-goes : goal.returns-in-Err-truncate-clause-goes
returns-in-Err-truncate-clause-goes g c =
    joined g.S.ImageStore.did _ _ _ _ _ _ c.note_less.ensures.goes
    (one_call g.S.ImageStore.did _ _ _ _ (Truncate c.args.size false) (c.in_default.ensures.ok, omega (arith, c.requires.sound, c.note_less.ensures.known.0))
    c.in-Err-truncate.ensures.did c.in-Err-truncate.ensures.known)

pub returns-in-Err-truncate-clause-err : goal.returns-in-Err-truncate-clause-err
returns-in-Err-truncate-clause-err g c piece =
    stopped_cutting c.args.size piece _ _ _ _ _ c.in-Err-truncate.fault c.requires.sound (ap (λ (k : Known). k.sound) c.in-Err-truncate.ensures.known) c.note_less.ensures.contents
    (g.met.S.ImageStore.does _ _ _ c.in-Err-truncate.ensures.did)

pub returns-in-Ok-clause-goes : goal.returns-in-Ok-clause-goes
returns-in-Ok-clause-goes g c =
    joined g.S.ImageStore.did _ _ _ _ _ _
    (joined g.S.ImageStore.did _ _ _ _ _ _ c.note_less.ensures.goes
    (one_call g.S.ImageStore.did _ _ _ _ (Truncate c.args.size true) (c.in_default.ensures.ok, omega (arith, c.requires.sound, c.note_less.ensures.known.0))
    c.in_default-truncate.ensures.did c.in_default-truncate.ensures.known))
    (one_call g.S.ImageStore.did _ _ _ _ (Sync true) tt c.in-Ok.ensures.did c.in-Ok.ensures.known)

pub returns-in-Err-sync-clause-goes : goal.returns-in-Err-sync-clause-goes
returns-in-Err-sync-clause-goes g c =
    joined g.S.ImageStore.did _ _ _ _ _ _
    (joined g.S.ImageStore.did _ _ _ _ _ _ c.note_less.ensures.goes
    (one_call g.S.ImageStore.did _ _ _ _ (Truncate c.args.size true) (c.in_default.ensures.ok, omega (arith, c.requires.sound, c.note_less.ensures.known.0))
    c.in_default-truncate.ensures.did c.in_default-truncate.ensures.known))
    (one_call g.S.ImageStore.did _ _ _ _ (Sync false) tt c.in-Err-sync.ensures.did c.in-Err-sync.ensures.known)

pub returns-in-Err-sync-clause-err : goal.returns-in-Err-sync-clause-err
returns-in-Err-sync-clause-err g c piece =
    let cut : GoesOn g.S.ImageStore.did c.args.self.now.store c.args.self.now.known c.truncate.new.self.store c.truncate.new.self.known =
    joined g.S.ImageStore.did _ _ _ _ _ _ c.note_less.ensures.goes
    (one_call g.S.ImageStore.did _ _ _ _ (Truncate c.args.size true) (c.in_default.ensures.ok, omega (arith, c.requires.sound, c.note_less.ensures.known.0))
    c.in_default-truncate.ensures.did c.in_default-truncate.ensures.known) in
    let less = ap (λ (k : Known). k.synced) c.in_default-truncate.ensures.known in
    stopped_syncing c.args.size piece _ _ _ _ _ _ _ c.in-Err-sync.fault c.requires.sound (omega (arith, less)) (ap (λ (k : Known). k.sound) c.in-Err-sync.ensures.known)
    c.note_less.ensures.contents (g.met.S.ImageStore.does _ _ _ c.in_default-truncate.ensures.did)
    (λ is. goes_known g.S.ImageStore.did g.S.ImageStore.file g.met.S.ImageStore.does _ _ _ _ cut is)
    (g.met.S.ImageStore.does _ _ _ c.in-Err-sync.ensures.did)
