use Rattle.library_inventory.proofs.Addresses.{addresses_read_back}
use Rattle.library_inventory.proofs.laws.addresses_read_back.Goals as goal

pub returns : goal.returns
returns c = addresses_read_back
