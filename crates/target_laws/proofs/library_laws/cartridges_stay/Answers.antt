use Rattle.target_laws.proofs.CartridgeSteps.{cartridges_stay}
use Rattle.target_laws.proofs.library_laws.cartridges_stay.Goals as goal

pub returns : goal.returns
returns c = cartridges_stay
