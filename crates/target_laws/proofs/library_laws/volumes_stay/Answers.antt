use Rattle.target_laws.proofs.VolumeSteps.{volumes_stay}
use Rattle.target_laws.proofs.library_laws.volumes_stay.Goals as goal

pub returns : goal.returns
returns c = volumes_stay
