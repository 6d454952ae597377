use Rattle.std.proofs.Common.{◌≡◌, [], ◌∷◌, ◌++◌, rules}
use Rattle.std.proofs.lemmas.List.Elements.{All-same}
use Rattle.media_folder.specs.declared.reading.ReadVolume.{ReadVolume}
use Rattle.media_folder.specs.Volumes.{IsVolumeOf}
use Rattle.media_folder.proofs.Keeping.{added}
use Rattle.media_folder.proofs.images.find_volume.Goals as goal
use Rattle.media_folder.proofs.images.find_volume.Goals.{in-Ok+in_ok-map_err-in-Ok, in-Err+in_ok-map_err-in-Err}

pub returns : goal.returns
returns g c = λ h. elim c.match-read_unseen.branch [
  | in-Ok+in_ok-map_err-in-Ok w ↦
      let volume : IsVolumeOf c.args.folder.given.now w.in-Ok.read.volume w.in-Ok.read.store = record {
        named = rw (w.in-Ok.ensures.tag, w.in-Ok.ensures.path) c.in_ok-paths.ensures.given;
        protected = w.in-Ok.ensures.protected;
      } in
      let more : c.match-read_unseen.found.volumes.items ≡ c.args.found.now.volumes.items ++ w.in-Ok.read ∷ [] = search rules in
      added (λ (read : ReadVolume g.row.R.Denot g.row.R-Dir.Denot). IsVolumeOf c.args.folder.given.now read.volume read.store)
      c.args.found.now.volumes.items c.match-read_unseen.found.volumes.items w.in-Ok.read more h volume
  | in-Err+in_ok-map_err-in-Err w ↦
      let same : c.match-read_unseen.found.volumes.items ≡ c.args.found.now.volumes.items = search rules in
      All-same (λ (read : ReadVolume g.row.R.Denot g.row.R-Dir.Denot). IsVolumeOf c.args.folder.given.now read.volume read.store)
      c.match-read_unseen.found.volumes.items c.args.found.now.volumes.items same h
]
