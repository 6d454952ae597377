use Rattle.std.proofs.Common.{rules}
use Rattle.output_lines.proofs.audit_lines.audit_text.Goals as goal

pub returns : goal.returns
returns g c = search rules fits 100
