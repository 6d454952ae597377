-- How many sessions a served library has, and what is told of its sessions (profile).
use Rattle.std.specs.Prelude.{Bool, true, false}
use Rattle.program_options.specs.declared.serve_until.ServeUntil.{ServeUntil}
use Rattle.program_options.specs.declared.serve_until.ServeUntil.TheVariants.{Sessions, InputEnds}
use Rattle.server.specs.declared.teller.Telling.{Telling}
use Rattle.server.specs.declared.teller.Telling.TheVariants.{Faults, Everything}
use Rattle.server.specs.declared.acceptor.ServeTerm.{ServeTerm}
use Rattle.server.specs.declared.acceptor.ServeTerm.TheVariants as term

-- where a number was asked for these, and else all that come until the input ends
abbrev pub term_of : ServeUntil → ServeTerm
term_of (Sessions count) = term.Sessions count
term_of (InputEnds workers) = term.UntilClosed

-- faults alone, unless all that happens is logged
abbrev pub telling_of : (log : Bool) → Telling
telling_of true = Everything
telling_of false = Faults
