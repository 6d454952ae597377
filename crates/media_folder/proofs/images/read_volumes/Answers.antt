use Rattle.std.proofs.lemmas.List.Elements.{All-nil, All-same}
use Rattle.std.proofs.Common.{[]}
use Rattle.media_folder.specs.declared.reading.ReadVolume.{ReadVolume}
use Rattle.media_folder.specs.Volumes.{IsVolumeOf}
use Rattle.media_folder.proofs.images.read_volumes.Goals as goal

pub returns : goal.returns
returns g c =
    let P = λ (read : ReadVolume g.row.R.Denot g.row.R-Dir.Denot). IsVolumeOf c.args.folder.given.now read.volume read.store in
    c.in_ok-find_volumes.ensures (All-same P c.new-found.result.volumes.items [] c.new-found.ensures (All-nil P))
