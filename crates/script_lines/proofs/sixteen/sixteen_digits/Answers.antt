use Rattle.std.proofs.Common.{◌≡◌, true, map, take, ap, sym, ◌∙◌, arith}
use Rattle.std.specs.List.{list_all}
use Rattle.std.proofs.lemmas.List.{take_all}
use Rattle.hex.specs.Hex.{is_hex_digit}
use Rattle.script_lines.specs.Words.{digit_value, hex_bytes}
use Rattle.script_lines.proofs.Pairs.{no_digits, small_value, values_decode}
use Rattle.script_lines.proofs.sixteen.sixteen_digits.Goals as goal

pub bytes_of-requires : goal.bytes_of-requires
bytes_of-requires c k = rw c.values_of.ensures (small_value _ k)

pub returns-then-are_digits : goal.returns-then-are_digits
returns-then-are_digits c =
    let word = c.args.word.now in
    let whole : take 16 word ≡ word = take_all 16 word (omega arith) in
    let digits : list_all is_hex_digit word ≡ true = ap (list_all is_hex_digit) (sym whole) ∙ sym c.are_digits.ensures ∙ c.if-are_digits.true in
    ap hex_bytes (sym (values_decode word c.values_of.result c.bytes_of.result (omega arith) digits (c.values_of.ensures ∙ ap (map digit_value) whole) (λ k lt. c.bytes_of.ensures k (omega arith))))

pub returns-else-are_digits : goal.returns-else-are_digits
returns-else-are_digits c =
    let word = c.args.word.now in
    let whole : take 16 word ≡ word = take_all 16 word (omega arith) in
    sym (no_digits word (ap (list_all is_hex_digit) (sym whole) ∙ sym c.are_digits.ensures ∙ c.if-are_digits.false))
