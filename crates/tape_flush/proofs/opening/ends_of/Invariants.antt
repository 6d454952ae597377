use Rattle.std.proofs.Common.{◌≡◌, map, take}
use Rattle.tape_flush.specs.Openings.{end_of_entry}
use Rattle.tape_flush.proofs.opening.ends_of.Given as goal

abbrev pub invariant-entries : goal.invariant-entries
invariant-entries l = l.ends.items ≡ map end_of_entry (take l.entry-index l.entries)
