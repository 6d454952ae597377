use Rattle.std.proofs.Common.{arith, ◌≡◌, ◌<◌, ◌+◌, ◌*◌, ◌++◌, ◌∷◌, [], ◌^◌, refl, vec_len, vec_capacity, append_assoc}
use Rattle.std.proofs.lemmas.Grind.{common_steps}
use Rattle.tape_medium.proofs.WriteLemmas.{next-fits}
use Rattle.tape_medium.proofs.PlaceLemmas.{block_places-more}
use Rattle.tape_medium.proofs.index.put_block_places.Goals as goal

pub overflow_add-end : goal.overflow_add-end
overflow_add-end c =
    let less : c.args.from + c.loop.counter * c.args.size + c.args.size < 2 ^ 64 = next-fits _ _ _ _ _ c.loop-test.true c.requires.fits in
    omega (arith, c.loop.invariant.end)

pub loop-preserved : goal.loop-preserved
loop-preserved c =
    let end : c.loop.end + c.args.size ≡ c.args.from + c.loop.counter * c.args.size + c.args.size = omega (arith, c.loop.invariant.end) in
    let room : vec_len c.loop.places < vec_capacity c.loop.places = omega (arith, c.loop.invariant.room) in
    let pushed : c.push.new.self.items ≡ c.loop.places.items ++ record { end = c.loop.end + c.args.size; home = c.args.home } ∷ [] = grind (arith, common_steps) in
    record {
      items = rw (pushed, c.loop.invariant.items, end, block_places-more c.args.size c.loop.counter c.args.from c.args.home, append_assoc) refl;
      end = grind (arith, c.loop.invariant.end);
      room = grind (arith, common_steps);
    }
