use Rattle.library_inventory.proofs.Lying.{all_known}
use Rattle.library_inventory.proofs.laws.starts_forget_no_volume.Goals as goal

pub returns : goal.returns
returns c slots least named missing images left_out start tag s = all_known slots least named missing images left_out start tag s
