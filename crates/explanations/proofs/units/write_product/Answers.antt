use Rattle.std.proofs.Common.{append_assoc}
use Rattle.explanations.proofs.units.write_product.Goals as goal

pub returns : goal.returns
returns c = rw (c.in_ok-write_field-3.ensures, c.in_ok-write_field-2.ensures, c.in_ok-write_field.ensures) (simp append_assoc)
