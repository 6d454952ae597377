use Rattle.std.proofs.Common.{arith, take, drop}
use Rattle.settled_numbers.proofs.Numbers.{joins}
use Rattle.settled_numbers.proofs.placing.fit.Goals as goal

pub returns : goal.returns
returns c =
    let rs = c.args.ranges.now in
    let low = c.in_ok-from.ensures.near in
    let high = c.in_ok-to.ensures.near in
    record {
      order = omega (arith, low.0, high.0);
      few = omega (arith, low.1, high.1);
      within = high.2;
      joins = joins rs (take c.in_ok-from.from rs) (drop c.in_ok-to.to rs) c.place-at.result c.args.range _ c.requires c.in_ok-from.ensures.fits c.in_ok-to.ensures.fits;
    }
