use Rattle.device_server.proofs.FailureLemmas.{drives_never_fail, changers_fail_for_drives}
use Rattle.device_server.proofs.laws.fails_only_for_drives.Goals as goal

pub returns-clause-drives : goal.returns-clause-drives
returns-clause-drives c = drives_never_fail

pub returns-clause-changers : goal.returns-clause-changers
returns-clause-changers c = changers_fail_for_drives
