use Rattle.std.proofs.Common.{◌≡◌, vec_len}
use Rattle.log_pages.specs.Pages.{flags_to}
use Rattle.log_pages.proofs.parameter_lists.tape_alert_flags.Given as goal

abbrev pub invariant-loop-before : goal.invariant-loop-before
invariant-loop-before l = record { flags : l.flags.items ≡ flags_to l.before; count : vec_len l.flags ≡ l.before }
