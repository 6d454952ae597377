use Rattle.std.proofs.Common.{rules}
use Rattle.program_options.proofs.serve_times.ServeTimes.of_seconds.Goals as goal

pub returns-clause-idle : goal.returns-clause-idle
returns-clause-idle c = search rules fits 100
