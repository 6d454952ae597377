use Rattle.unit_laws.proofs.RowLaws.{worked, told, refused}
use Rattle.unit_laws.proofs.reservation_rows.worked_rows.Goals as goal

pub returns-clause-states : goal.returns-clause-states
returns-clause-states c = worked

pub returns-clause-told : goal.returns-clause-told
returns-clause-told c = told

pub returns-clause-refused : goal.returns-clause-refused
returns-clause-refused c = refused
