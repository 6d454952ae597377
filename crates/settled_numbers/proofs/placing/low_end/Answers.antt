use Rattle.settled_numbers.proofs.Sides.{low_meets, low_touches, low_apart}
use Rattle.settled_numbers.proofs.placing.low_end.Goals as goal

pub returns-then-range-low-clause-fits : goal.returns-then-range-low-clause-fits
returns-then-range-low-clause-fits c = low_meets c.args.ranges.now c.args.at c.args.range c.index-ranges-at.result c.if-at-eq0.false c.requires.within c.index-ranges-at.is c.requires.below c.if-range-low.true

pub returns-then-range-low-eq1-clause-fits : goal.returns-then-range-low-eq1-clause-fits
returns-then-range-low-eq1-clause-fits c = low_touches c.args.ranges.now c.args.at c.args.range c.index-ranges-at.result c.if-at-eq0.false c.requires.within c.index-ranges-at.is c.if-range-low.false c.if-range-low-eq1.true

pub returns-else-range-low-eq1-clause-fits : goal.returns-else-range-low-eq1-clause-fits
returns-else-range-low-eq1-clause-fits c = low_apart c.args.ranges.now c.args.at c.args.range c.index-ranges-at.result c.if-at-eq0.false c.requires.within c.index-ranges-at.is c.if-range-low.false c.if-range-low-eq1.false
