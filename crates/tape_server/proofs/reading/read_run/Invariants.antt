use Rattle.std.proofs.Common.{◌+◌, ◌-◌, ◌*◌, ◌≤◌, vec_len, vec_capacity}
use Rattle.tape_server.proofs.RunLemmas.{RunSoFar}
use Rattle.tape_server.proofs.reading.read_run.Given as goal

abbrev pub invariant-loop-done : goal.invariant-loop-done
invariant-loop-done l =
    record {
      so : RunSoFar l.size l.count l.fn.tape l.tape l.done l.fn.bytes.items l.bytes.items;
      room : vec_len l.bytes + (l.count - l.done) * l.size ≤ vec_capacity l.bytes;
    }
