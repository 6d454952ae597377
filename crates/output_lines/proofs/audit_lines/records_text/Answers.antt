use Rattle.std.proofs.Common.{rules}
use Rattle.output_lines.proofs.audit_lines.records_text.Goals as goal

pub returns : goal.returns
returns c = search rules fits 100
