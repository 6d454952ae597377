use Rattle.std.proofs.Common.{refl}
use Rattle.library_start.proofs.ProfileLemmas.{default_drives}
use Rattle.library_start.proofs.stock_rows.default_devices.Goals as goal

pub returns : goal.returns
returns c = record { drives = default_drives; changer = λ elements sources. refl }
