use Rattle.explanations.proofs.HexLanes.{second_ok, second_read}
use Rattle.explanations.proofs.hex_text.second_digits.Goals as goal

pub swizzle : goal.swizzle
swizzle c = second_ok c.args.bytes c.fits-bytes

pub returns : goal.returns
returns c = second_read c.args.bytes c.fits-bytes
