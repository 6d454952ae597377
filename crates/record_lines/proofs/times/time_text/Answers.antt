use Rattle.std.proofs.Common.{◌≡◌, ap, ◌∙◌, false, Some}
use Rattle.record_lines.proofs.times.time_text.Goals as goal

pub returns : goal.returns
returns c =
    let told = c.timestamp_text-text.ensures in
    let is_capital : c.precision-printer.result.lowercase ≡ false = ap (λ o. o.0) c.precision-printer.ensures ∙ ap (λ o. o.0) c.new.ensures in
    let letter : c.precision-printer.result.separator ≡ 84 = ap (λ o. o.1) c.precision-printer.ensures ∙ ap (λ o. o.1) c.new.ensures in
    let places : c.precision-printer.result.precision ≡ Some 3 = ap (λ o. o.2) c.precision-printer.ensures in
    let shows = rw is_capital at (rw letter at (rw places at told.2)) in
    record {
      shown = told.0;
      instant = told.1 ∙ (ap (λ t. t.nanosecond) c.to_plain.ensures ∙ c.in-Ok.ensures.1);
      written = c.in_ok-from_str.ensures.ok ∙ (c.as_str.ensures.value ∙ shows);
    }
