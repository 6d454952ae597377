use Rattle.std.proofs.Common.{rules}
use Rattle.program_options.proofs.option_fault.OptionFault.text.Goals as goal

pub returns-in-MoreVolumes : goal.returns-in-MoreVolumes
returns-in-MoreVolumes c = search rules fits 100
