use Rattle.std.proofs.Common.{rules}
use Rattle.output_lines.proofs.audit_output.write_audit.Goals as goal

pub returns-in-Ok-clause-lines : goal.returns-in-Ok-clause-lines
returns-in-Ok-clause-lines g c = search rules fits 100
