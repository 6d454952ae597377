use Rattle.std.proofs.Common.{◌≡◌, [], ◌∷◌, ◌++◌, rules}
use Rattle.std.proofs.lemmas.Iterator.Consumers.{YieldsList-turn}
use Rattle.std.proofs.lemmas.Iterator.Adapters.{YieldsList-from_vec}
use Rattle.media_folder.specs.declared.reading.ReadVolume.{ReadVolume}
use Rattle.media_folder.specs.declared.images.KeptVolume.{KeptVolume}
use Rattle.media_folder.specs.Volumes.{IsVolumeOf}
use Rattle.media_folder.proofs.Keeping.{taken, added}
use Rattle.media_folder.proofs.images.keep_volumes.Goals as goal

pub volumes-preserved-in-Continue-branch-3 : goal.volumes-preserved-in-Continue-branch-3
volumes-preserved-in-Continue-branch-3 g c = λ h.
    let turn = YieldsList-turn (YieldsList-from_vec {s = c.into_iter-read-iterator.result} c.args.found.volumes.items (search rules) (search rules))
    c.volumes.yielded c.volumes.read-iterator c.volumes.yielded_by c.next.result c.next.new.self c.in-Some.read c.in-Some.is c.next.ensures.steps in
    let read : IsVolumeOf c.args.folder.now c.in-Some.read.volume c.in-Some.read.store =
    taken (λ (read : ReadVolume g.row.R.Denot g.row.R-Dir.Denot). IsVolumeOf c.args.folder.now read.volume read.store)
    c.args.found.volumes.items c.volumes.yielded c.in-Some.read turn.0 turn.1 h in
    let kept : IsVolumeOf c.args.folder.now c.in_ok-volume.volume.volume c.in_ok-volume.volume.image.store =
    record { named = rw (c.in_ok-volume.ensures.tag, c.in_ok-volume.ensures.path) read.named; protected = c.in_ok-volume.ensures.protected } in
    let more : c.push.new.self.items ≡ c.volumes.kept.items ++ c.in_ok-volume.volume ∷ [] = search rules in
    added (λ (kept : KeptVolume g.row.R.Denot g.row.R-Dir.Denot). IsVolumeOf c.args.folder.now kept.volume kept.image.store)
    c.volumes.kept.items c.push.new.self.items c.in_ok-volume.volume more (c.volumes.invariant h) kept
