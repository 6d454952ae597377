use Rattle.log_pages.proofs.Fields.{drives_refuse_fields, changers_refuse_fields}
use Rattle.log_pages.proofs.laws.fields_alone_are_refused.Goals as goal

pub returns-clause-drives : goal.returns-clause-drives
returns-clause-drives c = drives_refuse_fields

pub returns-clause-changers : goal.returns-clause-changers
returns-clause-changers c = changers_refuse_fields
