use Rattle.unit_laws.proofs.CheckRows as row
use Rattle.unit_laws.proofs.laws.answers_at_the_check.Goals as goal

pub returns-clause-write : goal.returns-clause-write
returns-clause-write c = row.barred_write

pub returns-clause-register : goal.returns-clause-register
returns-clause-register c = row.barred_register

pub returns-clause-allowed : goal.returns-clause-allowed
returns-clause-allowed c = row.allowed_write
