use Rattle.device_server.proofs.MarkLemmas.{commands_keep_marks, resets_keep_marks, journeys_keep_marks, exchanges_keep_marks}
use Rattle.device_server.proofs.laws.marks_stay.Goals as goal

pub returns-clause-performed : goal.returns-clause-performed
returns-clause-performed c = commands_keep_marks

pub returns-clause-reset : goal.returns-clause-reset
returns-clause-reset c = resets_keep_marks

pub returns-clause-journey : goal.returns-clause-journey
returns-clause-journey c = journeys_keep_marks

pub returns-clause-exchange : goal.returns-clause-exchange
returns-clause-exchange c = exchanges_keep_marks
