use Rattle.std.proofs.Common.{take, arith}
use Rattle.std.proofs.lemmas.List.{take_all, length-take-le}
use Rattle.explanations.proofs.HexLanes.{woven}
use Rattle.explanations.proofs.hex_text.digits_of_block.Goals as goal

pub returns : goal.returns
returns c =
    let block = c.args.block.now in
    woven block (take 32 block) _ _ (take_all 32 block (omega arith)) (length-take-le 32 block (omega arith)) c.first_digits.ensures c.second_digits.ensures
