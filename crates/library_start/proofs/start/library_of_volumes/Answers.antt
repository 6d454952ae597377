use Rattle.std.proofs.Common.{length, ap, arith}
use Rattle.library_start.proofs.ProfileLemmas.{length-empty_drives}
use Rattle.library_start.specs.Starting.{ShelvesView}
use Rattle.library_start.proofs.StartLemmas.{AreShelved-length}
use Rattle.library_start.proofs.start.library_of_volumes.Goals as goal

pub units_over-requires : goal.units_over-requires
units_over-requires c =
    let count = AreShelved-length c.in_ok-shelves.shelves c.put_all.new.self c.args.volumes.items c.in_ok-put_all.ensures in
    let empty = ap (λ (s : ShelvesView). length s.drives) c.in_ok-shelves.ensures in
    omega (arith, count, empty, length-empty_drives c.args.profile c.args.size.drives, c.requires.few_drives)
