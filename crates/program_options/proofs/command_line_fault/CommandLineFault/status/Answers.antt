use Rattle.std.proofs.Common.{rules}
use Rattle.program_options.proofs.command_line_fault.CommandLineFault.status.Goals as goal

pub returns-in-NotText : goal.returns-in-NotText
returns-in-NotText c = search rules fits 100
