use Rattle.std.proofs.Common.{rules}
use Rattle.permit_tables.proofs.class_names.class_text.Goals as goal

pub returns-in-Clear : goal.returns-in-Clear
returns-in-Clear c = search rules
