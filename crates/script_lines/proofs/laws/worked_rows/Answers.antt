use Rattle.script_lines.proofs.RowLemmas.{lines_read, line_faults, scripts_read, requests_read}
use Rattle.script_lines.proofs.laws.worked_rows.Goals as goal

pub returns-clause-lines : goal.returns-clause-lines
returns-clause-lines c = lines_read

pub returns-clause-faults : goal.returns-clause-faults
returns-clause-faults c = line_faults

pub returns-clause-scripts : goal.returns-clause-scripts
returns-clause-scripts c = scripts_read

pub returns-clause-requests : goal.returns-clause-requests
returns-clause-requests c = requests_read
