use Rattle.std.proofs.Common.{◌≡◌, true, map, take, ap, sym, ◌∙◌, arith}
use Rattle.std.specs.List.{list_all}
use Rattle.std.proofs.lemmas.List.{take_all}
use Rattle.hex.specs.Hex.{is_hex_digit}
use Rattle.script_lines.specs.Words.{digit_value, hex_bytes}
use Rattle.script_lines.proofs.Pairs.{no_digits, small_value, values_decode}
use Rattle.script_lines.proofs.blocks.bytes_of_block.Goals as goal

pub bytes_of-requires : goal.bytes_of-requires
bytes_of-requires c k = rw (c.values_of-values.ensures.values (sym c.values_of-values.ensures.others ∙ sym c.are_small.ensures ∙ c.if-are_small.true)) (small_value _ k)

pub returns-then-are_small : goal.returns-then-are_small
returns-then-are_small c =
    let block = c.args.block.now in
    let whole : take 64 block ≡ block = take_all 64 block (omega arith) in
    let read : list_all is_hex_digit (take 64 block) ≡ true = sym c.values_of-values.ensures.others ∙ sym c.are_small.ensures ∙ c.if-are_small.true in
    let digits : list_all is_hex_digit block ≡ true = ap (list_all is_hex_digit) (sym whole) ∙ read in
    ap hex_bytes (sym (values_decode block c.values_of-values.result c.bytes_of.result (omega arith) digits (c.values_of-values.ensures.values read ∙ ap (map digit_value) whole) (λ k lt. c.bytes_of.ensures k (omega arith))))

pub returns-else-are_small : goal.returns-else-are_small
returns-else-are_small c =
    let block = c.args.block.now in
    let whole : take 64 block ≡ block = take_all 64 block (omega arith) in
    sym (no_digits block (ap (list_all is_hex_digit) (sym whole) ∙ sym c.values_of-values.ensures.others ∙ sym c.are_small.ensures ∙ c.if-are_small.false))
