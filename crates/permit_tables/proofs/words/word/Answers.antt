use Rattle.std.proofs.Common.{rules}
use Rattle.permit_tables.proofs.words.word.Goals as goal

pub returns-in-ModeSelect : goal.returns-in-ModeSelect
returns-in-ModeSelect c = search rules
