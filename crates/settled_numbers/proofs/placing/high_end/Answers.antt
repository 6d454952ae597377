use Rattle.std.proofs.Common.{arith}
use Rattle.settled_numbers.proofs.Sides.{high_meets, high_touches, high_apart}
use Rattle.settled_numbers.proofs.placing.high_end.Goals as goal

pub returns-then-high-range-clause-fits : goal.returns-then-high-range-clause-fits
returns-then-high-range-clause-fits c = high_meets c.args.ranges.now c.args.at c.args.range c.index-ranges-at.result (omega (arith, c.requires.within, c.if-at-ranges.false)) c.index-ranges-at.is c.requires.above c.if-high-range.true

pub returns-then-high-range-eq1-clause-fits : goal.returns-then-high-range-eq1-clause-fits
returns-then-high-range-eq1-clause-fits c = high_touches c.args.ranges.now c.args.at c.args.range c.index-ranges-at.result (omega (arith, c.requires.within, c.if-at-ranges.false)) c.index-ranges-at.is c.if-high-range.false c.if-high-range-eq1.true

pub returns-else-high-range-eq1-clause-fits : goal.returns-else-high-range-eq1-clause-fits
returns-else-high-range-eq1-clause-fits c = high_apart c.args.ranges.now c.args.at c.args.range c.index-ranges-at.result c.requires.joined (omega (arith, c.requires.within, c.if-at-ranges.false)) c.index-ranges-at.is c.if-high-range.false c.if-high-range-eq1.false
