use Rattle.std.proofs.Common.{◌+◌, ◌-◌}
use Rattle.std.specs.Prelude.{vec_len}
use Rattle.record_file.proofs.record_lines_left.reach.Given as goal

abbrev pub decreases-units : goal.decreases-units
decreases-units l = l.fn.place + 1 - vec_len l.standing
