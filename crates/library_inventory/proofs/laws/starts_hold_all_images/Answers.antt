use Rattle.library_inventory.proofs.Lying.{all_lie}
use Rattle.library_inventory.proofs.laws.starts_hold_all_images.Goals as goal

pub returns : goal.returns
returns c slots least named missing images left_out start tag s = all_lie slots least named missing images left_out start tag s
