use Rattle.std.proofs.Common.{◌≡◌, ◌+◌, arith}
use Rattle.kept_unit.proofs.Spans.{numbers_joined}
use Rattle.kept_unit.proofs.ranges.joined.Goals as goal

pub returns-then-high-low-eq1-clause-numbers : goal.returns-then-high-low-eq1-clause-numbers
returns-then-high-low-eq1-clause-numbers c =
    let next : c.args.high.first ≡ c.args.low.last + 1 = omega arith in
    numbers_joined c.args.low c.args.high next
