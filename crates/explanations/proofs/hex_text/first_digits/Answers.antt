use Rattle.explanations.proofs.HexLanes.{first_ok, first_read}
use Rattle.explanations.proofs.hex_text.first_digits.Goals as goal

pub swizzle : goal.swizzle
swizzle c = first_ok c.args.bytes c.fits-bytes

pub returns : goal.returns
returns c = first_read c.args.bytes c.fits-bytes
