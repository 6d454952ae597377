use Rattle.tape_image.proofs.Walking.{passed_is_read, stopped_is_read}
use Rattle.tape_image.proofs.laws.parts_are_passed.Goals as goal

pub returns-clause-passed : goal.returns-clause-passed
returns-clause-passed c offset bytes more others stop r = passed_is_read offset bytes more others stop r

pub returns-clause-stopped : goal.returns-clause-stopped
returns-clause-stopped c offset bytes stop is = stopped_is_read offset bytes stop is
