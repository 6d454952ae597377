use Rattle.std.proofs.Common.{◌≡◌, ◌≤◌, length}
use Rattle.library_status.specs.Words.{trimmed}
use Rattle.library_status.proofs.words.without_spaces.Given as goal

abbrev pub decreases-spaces : goal.decreases-spaces
decreases-spaces l = l.end

abbrev pub invariant-spaces : goal.invariant-spaces
invariant-spaces l = record {
  inside : l.end ≤ length l.bytes;
  same : trimmed l.bytes l.end ≡ trimmed l.bytes (length l.bytes);
}
