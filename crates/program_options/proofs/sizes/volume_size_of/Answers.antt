use Rattle.std.proofs.Common.{rules}
use Rattle.program_options.proofs.sizes.volume_size_of.Goals as goal

pub returns-in_default-clause-value : goal.returns-in_default-clause-value
returns-in_default-clause-value c = search rules fits 100
