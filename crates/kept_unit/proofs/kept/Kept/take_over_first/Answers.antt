use Rattle.std.proofs.Common.{arith, ◌≡◌, ◌+◌, sym, ap, ◌∙◌, Result, Ok, Err, false}
use Rattle.std.specs.Prelude.{OnOk}
use Rattle.std.specs.Result.{is_err}
use Rattle.settled_numbers.specs.Numbers.{size}
use Rattle.kept_unit.specs.Ranges.{numbers_in_ranges}
use Rattle.kept_unit.proofs.HandingOver.{counted_more, first_few, rises_more}
use Rattle.kept_unit.proofs.kept.Kept.take_over_first.Goals as goal

went : {A E : Type 0} (r : Result A E) (P : Type 0) → is_err r ≡ false → OnOk r P → P
went (Ok x) P fine h = h
went (Err e) P fine h = absurd (cc)

pub take_over-requires : goal.take_over-requires
take_over-requires g c =
    let more = counted_more c.args.ranges.now c.loop-range.range-index c.range-item.result (omega arith) c.range-item.is in
    let few = first_few c.args.ranges.now (c.loop-range.range-index + 1) in
    let inv = c.loop-range.invariant in
    (omega arith, (omega (arith, inv.1), omega (arith, more, few, inv.3, c.requires.counted)))

pub loop-range-preserved : goal.loop-range-preserved
loop-range-preserved g c =
    let i = c.loop-range.range-index in
    let ranges = c.args.ranges.now in
    let range = c.range-item.result in
    let inv = c.loop-range.invariant in
    let more = counted_more ranges i range (omega arith) c.range-item.is in
    let given = went c.take_over.result (c.take_over.new.part.amount + size range ≡ c.loop-range.part.amount) (sym c.is_err.ensures.value ∙ c.if-is_err.false) c.take_over.ensures.given in (
      omega (arith, inv.0),
      c.take_over.ensures.parts ∙ inv.1,
      rises_more ranges i c.args.last.now c.loop-range.last range (omega arith) c.range-item.is inv.2 c.if-range-last.false,
      omega (arith, more, given, inv.3),
    )
