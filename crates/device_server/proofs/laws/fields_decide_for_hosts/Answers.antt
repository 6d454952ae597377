use Rattle.device_server.proofs.ByProfile.{fields_decide_host_commands, fields_decide_mode_select, fields_decide_mode_sense, mode_select_tells_changes}
use Rattle.device_server.proofs.laws.fields_decide_for_hosts.Goals as goal

pub returns-clause-commands : goal.returns-clause-commands
returns-clause-commands c = fields_decide_host_commands

pub returns-clause-mode_select : goal.returns-clause-mode_select
returns-clause-mode_select c = fields_decide_mode_select

pub returns-clause-mode_sense : goal.returns-clause-mode_sense
returns-clause-mode_sense c = fields_decide_mode_sense

pub returns-clause-told : goal.returns-clause-told
returns-clause-told c = mode_select_tells_changes
