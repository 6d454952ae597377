use Rattle.std.proofs.Common.{◌≡◌, ◌+◌, ◌*◌, ◌≤◌, ◌++◌, vec_len, vec_capacity, ◌-◌, take}
use Rattle.tape_medium.specs.Store.{block_places}
use Rattle.tape_medium.proofs.index.put_block_places.Given as goal

-- the blocks so far are in
abbrev pub invariant-loop : goal.invariant-loop
invariant-loop l =
    record {
      items : l.places.items ≡ take l.at l.fn.places.items ++ block_places l.size l.counter l.from l.home;
      end : l.end ≡ l.from + l.counter * l.size;
      room : vec_len l.places + (l.count - l.counter) ≤ vec_capacity l.places;
    }
